-- What an entry of a log is about, which is doubted after it departs, until an entry about the same agrees.
use Rattle.std.specs.Prelude.{ℕ, Bool, true, false, ◌&&◌, ◌||◌, ◌==◌, if◌then◌else◌, Option, Some, None}
use Rattle.apex_judge.specs.Prelude.{Call, Reply, InvalidMode, Configuration, Entry, is_create, NamedPort, queuing_of_id, queuing_named, sampling_of_id, sampling_named}
use Rattle.apex_types.specs.declared.call.Call.TheVariants as calls
use Rattle.apex_judge.specs.declared.subject.Subject.{Subject}
use Rattle.apex_judge.specs.declared.subject.Subject.TheVariants.{Mode, Port, Nothing}
use Rattle.apex_judge.specs.Picture.{Picture}
use Rattle.apex_judge.specs.Replies.{is_not_made, is_code}

abbrev pub is_at : Option ℕ → ℕ → Bool
is_at None n = false
is_at (Some m) n = m == n

abbrev pub id_in : Option NamedPort → Option ℕ
id_in None = None
id_in (Some named) = Some named.id

-- the identifier of the port that a call uses by name or by identifier, if it is configured and of the call's kind
abbrev pub port_about : Configuration → ℕ → Call → Option ℕ
port_about config p (calls.CreateSampling name size direction refresh) = id_in (sampling_named config p name)
port_about config p (calls.WriteSampling id message) = id_in (sampling_of_id config p (Some id))
port_about config p (calls.ReadSampling id) = id_in (sampling_of_id config p (Some id))
port_about config p (calls.SamplingId name) = id_in (sampling_named config p name)
port_about config p (calls.SamplingStatus id) = id_in (sampling_of_id config p (Some id))
port_about config p (calls.CreateQueuing name size depth direction discipline) = id_in (queuing_named config p name)
port_about config p (calls.SendQueuing id message) = id_in (queuing_of_id config p (Some id))
port_about config p (calls.ReceiveQueuing id) = id_in (queuing_of_id config p (Some id))
port_about config p (calls.QueuingId name) = id_in (queuing_named config p name)
port_about config p (calls.QueuingStatus id) = id_in (queuing_of_id config p (Some id))
port_about config p (calls.ClearQueuing id) = id_in (queuing_of_id config p (Some id))
port_about config p (calls.SetMode number) = None

-- a reply of the mode: to a change of mode, of a call that wasn't made, and INVALID_MODE to a creation
abbrev pub is_of_mode : Call → Reply → Bool
is_of_mode (calls.SetMode number) reply = true
is_of_mode call reply = is_not_made reply || (is_create call && is_code InvalidMode reply)

abbrev pub subject_at : Option ℕ → Subject
subject_at None = Nothing
subject_at (Some id) = Port id

-- the mode, if the logged reply or the standard's concerns it; otherwise the port
abbrev pub subject_of : Configuration → Entry → Reply → Subject
subject_of config entry standard =
    if is_of_mode entry.call entry.reply || is_of_mode entry.call standard then Mode
    else subject_at (port_about config entry.partition entry.call)

-- ---- doubts

abbrev pub is_doubted : Picture → ℕ → Subject → Bool
is_doubted picture p Mode = picture.is_mode_doubted p
is_doubted picture p (Port id) = picture.is_port_doubted p id
is_doubted picture p Nothing = false

abbrev pub is_mode : Subject → Bool
is_mode Mode = true
is_mode _ = false

abbrev pub is_port : ℕ → Subject → Bool
is_port id (Port number) = number == id
is_port id _ = false

-- the picture with what an entry of the partition is about doubted, or doubted no longer
abbrev pub with_doubt : ℕ → Subject → Bool → Picture → Picture
with_doubt partition subject doubted picture = record picture {
  is_mode_doubted = λ p. if is_mode subject && (partition == p) then doubted else picture.is_mode_doubted p;
  is_port_doubted = λ p id. if is_port id subject && (partition == p) then doubted else picture.is_port_doubted p id;
}
