-- The calls and replies that those by reference mean.
use Rattle.std.specs.Prelude.{◌≡◌, Option, None, Some}
use Rattle.apex_types.specs.declared.call.Call.{Call}
use Rattle.apex_types.specs.declared.call.Call.TheVariants as call
use Rattle.apex_types.specs.declared.reply.Reply.{Reply}
use Rattle.apex_types.specs.declared.reply.Reply.TheVariants as reply
use Rattle.apex_types.specs.declared.sample.Sample.{Sample}
use Rattle.apex_ports.specs.declared.history.Entry.{Entry}
use Rattle.apex_ports.specs.History.{entry_of}
use Rattle.apex_ports.specs.declared.noted.CallRef.{CallRef}
use Rattle.apex_ports.specs.declared.noted.CallRef.TheVariants as call_ref
use Rattle.apex_ports.specs.declared.noted.ReplyRef.{ReplyRef}
use Rattle.apex_ports.specs.declared.noted.ReplyRef.TheVariants as reply_ref
use Rattle.apex_ports.specs.declared.noted.Event.{Event}
use Rattle.apex_ports.specs.declared.noted.SampleRef.{SampleRef}

abbrev pub call_by : CallRef → Call
call_by (call_ref.CreateSampling name size direction refresh) = call.CreateSampling name.now size direction refresh
call_by (call_ref.WriteSampling id message) = call.WriteSampling id message.now
call_by (call_ref.ReadSampling id) = call.ReadSampling id
call_by (call_ref.SamplingId name) = call.SamplingId name.now
call_by (call_ref.SamplingStatus id) = call.SamplingStatus id
call_by (call_ref.CreateQueuing name size depth direction discipline) = call.CreateQueuing name.now size depth direction discipline
call_by (call_ref.SendQueuing id message) = call.SendQueuing id message.now
call_by (call_ref.ReceiveQueuing id) = call.ReceiveQueuing id
call_by (call_ref.QueuingId name) = call.QueuingId name.now
call_by (call_ref.QueuingStatus id) = call.QueuingStatus id
call_by (call_ref.ClearQueuing id) = call.ClearQueuing id
call_by (call_ref.SetMode mode) = call.SetMode mode

abbrev pub reply_by : ReplyRef → Reply
reply_by reply_ref.NotMade = reply.NotMade
reply_by (reply_ref.Code code) = reply.Code code
reply_by (reply_ref.Id id) = reply.Id id
reply_by (reply_ref.Received message) = reply.Received message.now
reply_by (reply_ref.Read message validity) = reply.Read message.now validity
reply_by (reply_ref.QueuingStatus waiting depth size direction) = reply.QueuingStatus waiting depth size direction
reply_by (reply_ref.SamplingStatus refresh size direction last) = reply.SamplingStatus refresh size direction last

abbrev pub sample_by : SampleRef → Sample
sample_by sample = record { message = sample.message.now; at = sample.at }

-- the sample is the one that is held, if one is
abbrev pub IsSampleBy : Option Sample → Option SampleRef → Type 0
IsSampleBy held None = held ≡ None
IsSampleBy held (Some sample) = held ≡ Some (sample_by sample)

-- the entry of one event
abbrev pub entry_by : Event → Entry
entry_by event = entry_of event.partition event.at (call_by event.call) (reply_by event.reply)
