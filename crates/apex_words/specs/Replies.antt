-- Which replies the rows of a service give, whatever the values in them.
use Rattle.std.specs.Prelude.{ℕ, ◌≡◌, ◌==◌, Bool, true, false, Some}
use Rattle.std.specs.List.{list_any}
use Rattle.apex_types.specs.declared.call.Call.{Call}
use Rattle.apex_types.specs.declared.moment.Moment.{Moment}
use Rattle.apex_types.specs.declared.reply.Reply.{Reply}
use Rattle.apex_types.specs.declared.reply.Reply.TheVariants as reply
use Rattle.apex_types.specs.declared.return_code.ReturnCode.{ReturnCode}
use Rattle.apex_types.specs.declared.return_code.ReturnCode.TheVariants.{NoError}
use Rattle.apex_types.specs.Reply.{code_of as code_in}
use Rattle.apex_types.specs.ReturnCode.{number_of}
use Rattle.apex_module.specs.Configuration.{Configuration}
use Rattle.apex_ports.specs.History.{History}
use Rattle.apex_ports.specs.ReplyTable.{reply_to}
use Rattle.apex_ports.specs.Rows.{code_of}
use Rattle.apex_texts.specs.Service.{service_of}
use Rattle.apex_texts.specs.declared.service.Service.{Service}
use Rattle.apex_texts.specs.declared.service.Service.TheVariants as service
use Rattle.apex_words.specs.Services.{refusals_of}

-- ---- the reply to an accepted call

-- only NO_ERROR
abbrev pub gives_code_alone : Service → Bool
gives_code_alone service.WriteSampling = true
gives_code_alone service.SendQueuing = true
gives_code_alone service.ClearQueuing = true
gives_code_alone service.SetMode = true
gives_code_alone _ = false

-- a port's identifier
abbrev pub gives_id : Service → Bool
gives_id service.CreateSampling = true
gives_id service.CreateQueuing = true
gives_id service.SamplingId = true
gives_id service.QueuingId = true
gives_id _ = false

-- a queuing message
abbrev pub gives_message : Service → Bool
gives_message service.ReceiveQueuing = true
gives_message _ = false

-- a sampling message
abbrev pub gives_sample : Service → Bool
gives_sample service.ReadSampling = true
gives_sample _ = false

abbrev pub gives_queuing_status : Service → Bool
gives_queuing_status service.QueuingStatus = true
gives_queuing_status _ = false

abbrev pub gives_sampling_status : Service → Bool
gives_sampling_status service.SamplingStatus = true
gives_sampling_status _ = false

-- ---- what a row gives

-- a check of the service refuses with this code
abbrev pub refuses_with : Service → ReturnCode → Bool
refuses_with service code = list_any (λ refusal. number_of (code_of refusal) == number_of code) (refusals_of service)

-- NO_ERROR for an accepted call, and the code of its refusal for any other
abbrev pub can_give_code : Service → ReturnCode → Bool
can_give_code service NoError = true
can_give_code service code = refuses_with service code

abbrev pub gives_alone : Service → ReturnCode → Bool
gives_alone service NoError = gives_code_alone service
gives_alone service code = refuses_with service code

abbrev pub can_give : Service → Reply → Bool
can_give service reply.NotMade = true
can_give service (reply.Code code) = gives_alone service code
can_give service (reply.Id id) = gives_id service
can_give service (reply.Received message) = gives_message service
can_give service (reply.Read message validity) = gives_sample service
can_give service (reply.QueuingStatus waiting depth size direction) = gives_queuing_status service
can_give service (reply.SamplingStatus refresh size direction last) = gives_sampling_status service

-- ---- the law

-- a row of the service gives the reply, and its code
pub record IsGiven (service : Service) (answer : Reply) : Type 0 where
  pub reply : can_give service answer ≡ true
  pub code : (code : ReturnCode) → code_in answer ≡ Some code → can_give_code service code ≡ true

-- whatever was called before, a row of the call's service gives its reply
abbrev pub RepliesAreGiven : Type 0
RepliesAreGiven = (config : Configuration) (history : History) (p : ℕ) (now : Moment) (call : Call) → IsGiven (service_of call) (reply_to config history p now call)
