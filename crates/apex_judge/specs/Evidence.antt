-- What a logged reply shows if the log is believed.
use Rattle.std.specs.Prelude.{ℕ, Bool, true, false, ◌&&◌, ◌==◌, if◌then◌else◌, List, length, Option, Some, None, unwrap_or}
use Rattle.apex_judge.specs.Prelude.{Call, Mode, Moment, Reply, ReturnCode, NoError, NoAction, InvalidParam, InvalidConfig, InvalidMode, Sample, Validity, Invalid, Valid, Configuration, port_of, Entry, is_destination_of}
use Rattle.apex_types.specs.Mode.{mode_numbered}
use Rattle.apex_types.specs.declared.call.Call.TheVariants as calls
use Rattle.apex_types.specs.declared.mode.Mode.TheVariants.{Idle, ColdStart, WarmStart, Normal}
use Rattle.apex_types.specs.declared.reply.Reply.TheVariants as replies
use Rattle.apex_judge.specs.Picture.{Picture}
use Rattle.apex_judge.specs.Subjects.{is_at, port_about}

-- ---- the mode

-- no call is made in IDLE
abbrev pub mode_of_made : Mode → Mode
mode_of_made Idle = Normal
mode_of_made mode = mode

-- no port is created in NORMAL
abbrev pub mode_of_creation : Mode → Mode
mode_of_creation Idle = ColdStart
mode_of_creation Normal = ColdStart
mode_of_creation mode = mode

-- the mode that is shown by the code of a change to a mode
abbrev pub mode_by_change : Mode → Option Mode → ReturnCode → Mode
mode_by_change present asked NoError = present
mode_by_change present (Some Normal) NoAction = Normal
mode_by_change present (Some WarmStart) InvalidMode = ColdStart
mode_by_change present asked code = mode_of_made present

-- by the code of a creation
abbrev pub mode_by_refusal : Mode → ReturnCode → Mode
mode_by_refusal present InvalidMode = Normal
mode_by_refusal present code = mode_of_made present

-- by the reply to a creation
abbrev pub mode_by_creation : Mode → Reply → Mode
mode_by_creation present (replies.Id id) = mode_of_creation present
mode_by_creation present (replies.Code code) = mode_by_refusal present code
mode_by_creation present reply = mode_of_made present

-- by a reply of a call that was made
abbrev pub mode_by_call : Mode → Call → Reply → Mode
mode_by_call present (calls.SetMode number) (replies.Code code) = mode_by_change present (mode_numbered number) code
mode_by_call present (calls.CreateSampling name size direction refresh) reply = mode_by_creation present reply
mode_by_call present (calls.CreateQueuing name size depth direction discipline) reply = mode_by_creation present reply
mode_by_call present call reply = mode_of_made present

-- by any reply
abbrev pub mode_shown : Mode → Call → Reply → Mode
mode_shown present call replies.NotMade = Idle
mode_shown present call reply = mode_by_call present call reply

-- ---- a port

abbrev pub created_by_refusal : ReturnCode → Option Bool
created_by_refusal NoAction = Some true
created_by_refusal InvalidConfig = Some false
created_by_refusal code = None

-- whether a port is created, by the reply to its creation
abbrev pub created_by_creation : Reply → Option Bool
created_by_creation (replies.Code code) = created_by_refusal code
created_by_creation reply = None

-- by the reply to a call that asks for its identifier
abbrev pub created_by_id : Reply → Option Bool
created_by_id (replies.Id id) = Some true
created_by_id (replies.Code code) = Some false
created_by_id reply = None

abbrev pub created_by_code : ReturnCode → Option Bool
created_by_code InvalidParam = Some false
created_by_code code = Some true

-- by the reply to a call by its identifier
abbrev pub created_by_call : Reply → Option Bool
created_by_call replies.NotMade = None
created_by_call (replies.Code code) = created_by_code code
created_by_call reply = Some true

-- with a message: if it is empty, INVALID_PARAM says nothing about the port
abbrev pub created_by_message : List ℕ → Reply → Option Bool
created_by_message message reply = if length message == 0 then None else created_by_call reply

abbrev pub created_shown : Call → Reply → Option Bool
created_shown (calls.CreateSampling name size direction refresh) reply = created_by_creation reply
created_shown (calls.WriteSampling id message) reply = created_by_message message reply
created_shown (calls.ReadSampling id) reply = created_by_call reply
created_shown (calls.SamplingId name) reply = created_by_id reply
created_shown (calls.SamplingStatus id) reply = created_by_call reply
created_shown (calls.CreateQueuing name size depth direction discipline) reply = created_by_creation reply
created_shown (calls.SendQueuing id message) reply = created_by_message message reply
created_shown (calls.ReceiveQueuing id) reply = created_by_call reply
created_shown (calls.QueuingId name) reply = created_by_id reply
created_shown (calls.QueuingStatus id) reply = created_by_call reply
created_shown (calls.ClearQueuing id) reply = created_by_call reply
created_shown (calls.SetMode number) reply = None

-- the validity of its last read, by a status
abbrev pub last_shown : Reply → Option Validity
last_shown (replies.SamplingStatus refresh size direction last) = Some last
last_shown reply = None

-- ---- a sample

-- when a sample was written that is read now
abbrev pub written_at : Moment → Validity → Moment
written_at now Valid = now
written_at now Invalid = record { 0 = 0 }

-- the sample, by the reply to a read; NO_ACTION says that there is none
abbrev pub sample_by_code : ReturnCode → Option Sample → Option Sample
sample_by_code NoAction sample = None
sample_by_code code sample = sample

abbrev pub sample_shown : Moment → Reply → Option Sample → Option Sample
sample_shown now (replies.Read message validity) sample = Some (record { message = message; at = written_at now validity })
sample_shown now (replies.Code code) sample = sample_by_code code sample
sample_shown now reply sample = sample

-- a read at a destination of the channel
abbrev pub reads_from : Configuration → ℕ → ℕ → Call → Bool
reads_from config channel partition (calls.ReadSampling id) = is_destination_of channel (port_of config partition id)
reads_from config channel partition call = false

-- ---- the picture

-- the entry is about the port
abbrev pub is_about : Configuration → ℕ → ℕ → Entry → Bool
is_about config p id entry = (entry.partition == p) && is_at (port_about config entry.partition entry.call) id

-- the picture with what the reply of an entry shows
abbrev pub with_evidence : Configuration → Entry → Picture → Picture
with_evidence config entry picture = record picture {
  mode = λ p. if entry.partition == p then mode_shown (picture.mode p) entry.call entry.reply else picture.mode p;
  created = λ p id. if is_about config p id entry then unwrap_or (created_shown entry.call entry.reply) (picture.created p id) else picture.created p id;
  last = λ p id. if is_about config p id entry then unwrap_or (last_shown entry.reply) (picture.last p id) else picture.last p id;
  sample = λ c. if reads_from config c entry.partition entry.call then sample_shown entry.at entry.reply (picture.sample c) else picture.sample c;
}
