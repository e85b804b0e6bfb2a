-- A row of a call's service gives its reply, by the cases of its row.
use Rattle.std.proofs.Common.{ℕ, ◌≡◌, Bool, true, false, ◌==◌, nat_lt, not, if◌then◌else◌, List, [], ◌∷◌, length, Option, Some, None, refl, subst}
use Rattle.apex_types.specs.declared.call.Call.{Call}
use Rattle.apex_types.specs.declared.call.Call.TheVariants as call
use Rattle.apex_types.specs.declared.mode.Mode.{Mode}
use Rattle.apex_types.specs.declared.mode.Mode.TheVariants as mode
use Rattle.apex_types.specs.Mode.{mode_numbered}
use Rattle.apex_types.specs.declared.moment.Moment.{Moment}
use Rattle.apex_types.specs.declared.reply.Reply.{Reply}
use Rattle.apex_types.specs.declared.reply.Reply.TheVariants as reply
use Rattle.apex_types.specs.declared.return_code.ReturnCode.{ReturnCode}
use Rattle.apex_types.specs.declared.return_code.ReturnCode.TheVariants as code
use Rattle.apex_types.specs.declared.sample.Sample.{Sample}
use Rattle.apex_types.specs.declared.validity.Validity.{Validity}
use Rattle.apex_types.specs.Direction.{number_of}
use Rattle.apex_types.specs.Reply.{code_of as code_in}
use Rattle.apex_module.specs.Configuration.{Configuration, refresh_of_kind}
use Rattle.apex_module.specs.declared.port.Port.{Port}
use Rattle.apex_ports.specs.Modes.{is_idle, is_normal, is_cold_start}
use Rattle.apex_ports.specs.ReplyTable.{size_of, depth_of, create_queuing_row, create_sampling_row, id_row, send_row, oldest_row, receive_row, clear_row, write_row, last_row, read_row, status_row, set_mode_row, service_row, oldest_reply, last_reply, queuing_status_reply, sampling_status_reply, reply_of}
use Rattle.apex_ports.specs.Ports.{is_source, NamedPort, queuing_named, sampling_named}
use Rattle.apex_ports.specs.Seen.{Seen, seen, queuing_port, sampling_port}
use Rattle.apex_ports.specs.declared.rows.Row.{Row}
use Rattle.apex_ports.specs.declared.rows.Row.TheVariants as row
use Rattle.apex_ports.specs.declared.rows.Row.TheVariants.{Refused}
use Rattle.apex_ports.specs.declared.rows.Refusal.TheVariants.{AlreadyCreated, SizeDiffers, DepthDiffers, DirectionDiffers, RefreshDiffers, UnknownDiscipline, InNormal, NotCreated, EmptyMessage, MessageTooLong, NotSource, NotDestination, QueueFull, AlreadyNormal, WarmStartInColdStart}
use Rattle.apex_texts.specs.Service.{service_of}
use Rattle.apex_texts.specs.declared.service.Service.{Service}
use Rattle.apex_texts.specs.declared.service.Service.TheVariants as service
use Rattle.apex_words.specs.Replies.{can_give, can_give_code, gives_alone, RepliesAreGiven}

-- what holds for both rows holds for the one that a check gives
either : (P : Row → Type 0) (test : Bool) (here there : Row) → P here → P there → P (if test then here else there)
either P true here there of_here of_there = of_here
either P false here there of_here of_there = of_there

module _ (config : Configuration) (here : Seen) (p : ℕ) where
  -- a reply of the row is one that the service gives
  abbrev Gives : Service → Row → Type 0
  Gives service row = can_give service (reply_of config here p row) ≡ true

  -- ---- creation, and identifiers by name

  create_queuing_given : (named : Option NamedPort) (size depth direction discipline : ℕ) → Gives service.CreateQueuing (create_queuing_row config here named size depth direction discipline)
  create_queuing_given None size depth direction discipline = refl
  create_queuing_given (Some named) size depth direction discipline =
      let P = Gives service.CreateQueuing in
      either P (here.created named.id) (Refused AlreadyCreated) _ refl
      (either P (not (size == size_of config named.port)) (Refused SizeDiffers) _ refl
      (either P (not (depth == depth_of config named.port.channel)) (Refused DepthDiffers) _ refl
      (either P (not (direction == number_of named.port.direction)) (Refused DirectionDiffers) _ refl
      (either P (nat_lt 1 discipline) (Refused UnknownDiscipline) _ refl
      (either P (is_normal here.mode) (Refused InNormal) _ refl refl)))))

  create_sampling_given : (named : Option NamedPort) (size direction refresh : ℕ) → Gives service.CreateSampling (create_sampling_row config here named size direction refresh)
  create_sampling_given None size direction refresh = refl
  create_sampling_given (Some named) size direction refresh =
      let P = Gives service.CreateSampling in
      either P (here.created named.id) (Refused AlreadyCreated) _ refl
      (either P (not (size == size_of config named.port)) (Refused SizeDiffers) _ refl
      (either P (not (direction == number_of named.port.direction)) (Refused DirectionDiffers) _ refl
      (either P (not (refresh == refresh_of_kind named.port.kind)) (Refused RefreshDiffers) _ refl
      (either P (is_normal here.mode) (Refused InNormal) _ refl refl))))

  queuing_id_given : (named : Option NamedPort) → Gives service.QueuingId (id_row here named)
  queuing_id_given None = refl
  queuing_id_given (Some named) = either (Gives service.QueuingId) (here.created named.id) (row.Identified named.id) (Refused NotCreated) refl refl

  sampling_id_given : (named : Option NamedPort) → Gives service.SamplingId (id_row here named)
  sampling_id_given None = refl
  sampling_id_given (Some named) = either (Gives service.SamplingId) (here.created named.id) (row.Identified named.id) (Refused NotCreated) refl refl

  -- ---- queuing ports

  send_given : (id : ℕ) (found : Option Port) (message : List ℕ) → Gives service.SendQueuing (send_row config here id found message)
  send_given id None message = refl
  send_given id (Some port) message =
      let P = Gives service.SendQueuing in
      either P (length message == 0) (Refused EmptyMessage) _ refl
      (either P (nat_lt (size_of config port) (length message)) (Refused MessageTooLong) _ refl
      (either P (not (is_source port.direction)) (Refused NotSource) _ refl
      (either P (length (here.waiting id) == depth_of config port.channel) (Refused QueueFull) _ refl refl)))

  oldest_given : (waiting : List (List ℕ)) → can_give service.ReceiveQueuing (oldest_reply waiting) ≡ true
  oldest_given [] = refl
  oldest_given (message ∷ rest) = refl

  oldest_row_given : (id : ℕ) (waiting : List (List ℕ)) → Gives service.ReceiveQueuing (oldest_row id waiting)
  oldest_row_given id [] = refl
  oldest_row_given id (message ∷ rest) = oldest_given (here.waiting id)

  receive_given : (id : ℕ) (found : Option Port) → Gives service.ReceiveQueuing (receive_row here id found)
  receive_given id None = refl
  receive_given id (Some port) = either (Gives service.ReceiveQueuing) (is_source port.direction) (Refused NotDestination) _ refl (oldest_row_given id (here.waiting id))

  clear_given : (found : Option Port) → Gives service.ClearQueuing (clear_row found)
  clear_given None = refl
  clear_given (Some port) = either (Gives service.ClearQueuing) (is_source port.direction) (Refused NotDestination) _ refl refl

  queuing_status_reply_given : (id : ℕ) (found : Option Port) → can_give service.QueuingStatus (queuing_status_reply config here id found) ≡ true
  queuing_status_reply_given id None = refl
  queuing_status_reply_given id (Some port) = refl

  queuing_status_given : (id : ℕ) (found : Option Port) → Gives service.QueuingStatus (status_row (row.QueuingStatus id) found)
  queuing_status_given id None = refl
  queuing_status_given id (Some port) = queuing_status_reply_given id (queuing_port config here p id)

  -- ---- sampling ports

  write_given : (found : Option Port) (message : List ℕ) → Gives service.WriteSampling (write_row config found message)
  write_given None message = refl
  write_given (Some port) message =
      let P = Gives service.WriteSampling in
      either P (length message == 0) (Refused EmptyMessage) _ refl
      (either P (nat_lt (size_of config port) (length message)) (Refused MessageTooLong) _ refl
      (either P (not (is_source port.direction)) (Refused NotSource) _ refl refl))

  last_given : (validity : Validity) (sample : Option Sample) → can_give service.ReadSampling (last_reply validity sample) ≡ true
  last_given validity None = refl
  last_given validity (Some sample) = refl

  last_row_given : (now : Moment) (id refresh : ℕ) (sample : Option Sample) → Gives service.ReadSampling (last_row now id refresh sample)
  last_row_given now id refresh None = refl
  last_row_given now id refresh (Some sample) = last_given _ (here.sample id)

  read_given : (now : Moment) (id : ℕ) (found : Option Port) → Gives service.ReadSampling (read_row here now id found)
  read_given now id None = refl
  read_given now id (Some port) = either (Gives service.ReadSampling) (is_source port.direction) (Refused NotDestination) _ refl (last_row_given now id _ (here.sample id))

  sampling_status_reply_given : (id : ℕ) (found : Option Port) → can_give service.SamplingStatus (sampling_status_reply config here id found) ≡ true
  sampling_status_reply_given id None = refl
  sampling_status_reply_given id (Some port) = refl

  sampling_status_given : (id : ℕ) (found : Option Port) → Gives service.SamplingStatus (status_row (row.SamplingStatus id) found)
  sampling_status_given id None = refl
  sampling_status_given id (Some port) = sampling_status_reply_given id (sampling_port config here p id)

  -- ---- modes

  set_mode_given : (present : Mode) (asked : Option Mode) → Gives service.SetMode (set_mode_row present asked)
  set_mode_given present None = refl
  set_mode_given present (Some mode.Normal) = either (Gives service.SetMode) (is_normal present) (Refused AlreadyNormal) _ refl refl
  set_mode_given present (Some mode.WarmStart) = either (Gives service.SetMode) (is_cold_start present) (Refused WarmStartInColdStart) _ refl refl
  set_mode_given present (Some mode.Idle) = refl
  set_mode_given present (Some mode.ColdStart) = refl

  -- ---- every call

  service_given : (now : Moment) (call : Call) → Gives (service_of call) (service_row config here p now call)
  service_given now (call.CreateSampling name size direction refresh) = create_sampling_given (sampling_named config p name) size direction refresh
  service_given now (call.WriteSampling id message) = write_given (sampling_port config here p id) message
  service_given now (call.ReadSampling id) = read_given now id (sampling_port config here p id)
  service_given now (call.SamplingId name) = sampling_id_given (sampling_named config p name)
  service_given now (call.SamplingStatus id) = sampling_status_given id (sampling_port config here p id)
  service_given now (call.CreateQueuing name size depth direction discipline) = create_queuing_given (queuing_named config p name) size depth direction discipline
  service_given now (call.SendQueuing id message) = send_given id (queuing_port config here p id) message
  service_given now (call.ReceiveQueuing id) = receive_given id (queuing_port config here p id)
  service_given now (call.QueuingId name) = queuing_id_given (queuing_named config p name)
  service_given now (call.QueuingStatus id) = queuing_status_given id (queuing_port config here p id)
  service_given now (call.ClearQueuing id) = clear_given (queuing_port config here p id)
  service_given now (call.SetMode number) = set_mode_given here.mode (mode_numbered number)

-- ---- codes

alone_given : (service : Service) (given : ReturnCode) → gives_alone service given ≡ true → can_give_code service given ≡ true
alone_given service code.NoError is = refl
alone_given service code.NoAction is = is
alone_given service code.NotAvailable is = is
alone_given service code.InvalidParam is = is
alone_given service code.InvalidConfig is = is
alone_given service code.InvalidMode is = is
alone_given service code.TimedOut is = is

with_data : (service : Service) (given : ReturnCode) → code.NoError ≡ given → can_give_code service given ≡ true
with_data service given same = subst (λ (c : ReturnCode). can_give_code service c ≡ true) same refl

code_given : (service : Service) (answer : Reply) (given : ReturnCode) → can_give service answer ≡ true → code_in answer ≡ Some given → can_give_code service given ≡ true
code_given service reply.NotMade given is same = absurd (cc)
code_given service (reply.Code c) given is same =
    let own : c ≡ given = cc in
    alone_given service given (subst (λ (d : ReturnCode). gives_alone service d ≡ true) own is)
code_given service (reply.Id id) given is same = with_data service given (cc)
code_given service (reply.Received message) given is same = with_data service given (cc)
code_given service (reply.Read message validity) given is same = with_data service given (cc)
code_given service (reply.QueuingStatus waiting depth size direction) given is same = with_data service given (cc)
code_given service (reply.SamplingStatus refresh size direction last) given is same = with_data service given (cc)

pub replies_given : RepliesAreGiven
replies_given config history p now call =
    let here = seen config history p in
    let is : can_give (service_of call) (reply_of config here p (if is_idle here.mode then row.Idle else service_row config here p now call)) ≡ true =
    either (Gives config here p (service_of call)) (is_idle here.mode) row.Idle (service_row config here p now call) refl (service_given config here p now call) in
    record { reply = is; code = λ code same. code_given (service_of call) _ code is same }
