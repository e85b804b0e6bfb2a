-- A system's own identifiers. The reply to a call that creates a port, or that asks for its identifier, shows which
-- identifier the system gave it, until the partition restarts. The log is judged with our identifiers instead.
use Rattle.std.specs.Prelude.{ℕ, Bool, true, ◌&&◌, ◌||◌, ◌==◌, if◌then◌else◌, List, [], ◌∷◌, ◌++◌, find, get_or, set, replicate, length, Option, Some, None, is_none, option_map, unwrap_or}
use Rattle.apex_judge.specs.Prelude.{Call, Reply, Configuration, id_named, Entry, is_code_no_error, is_restart, mode_asked}
use Rattle.apex_types.specs.declared.call.Call.TheVariants as calls
use Rattle.apex_types.specs.declared.reply.Reply.TheVariants as replies
use Rattle.apex_judge.specs.declared.port_ids.KnownIds.{KnownIds}
use Rattle.apex_judge.specs.declared.port_ids.PortId.{PortId}
use Rattle.apex_judge.specs.declared.own_ids.Replaced.{Replaced}

-- ---- the known identifiers of a partition's ports

-- our identifier of the port that has one of the system's
abbrev pub ours_in : List PortId → ℕ → Option ℕ
ours_in ids system = option_map (λ one. one.ours) (find (λ one. one.system == system) ids)

-- the same; no port has 0
abbrev pub ours_of : List PortId → ℕ → ℕ
ours_of ids system = unwrap_or (ours_in ids system) 0

-- the system's identifier of the port that has one of ours
abbrev pub system_of : List PortId → ℕ → Option ℕ
system_of ids ours = option_map (λ one. one.system) (find (λ one. one.ours == ours) ids)

-- neither the system's identifier nor the port is known
abbrev pub is_new : List PortId → ℕ → ℕ → Bool
is_new ids system port = is_none (ours_in ids system) && is_none (system_of ids port)

-- ---- identifiers in calls and replies

-- the identifier in a call; 0 if there is none
abbrev pub id_asked : Call → ℕ
id_asked (calls.WriteSampling id message) = id
id_asked (calls.ReadSampling id) = id
id_asked (calls.SamplingStatus id) = id
id_asked (calls.SendQueuing id message) = id
id_asked (calls.ReceiveQueuing id) = id
id_asked (calls.QueuingStatus id) = id
id_asked (calls.ClearQueuing id) = id
id_asked _ = 0

-- a call with another identifier instead of its own, if it has one
abbrev pub asked_of : ℕ → Call → Call
asked_of id (calls.WriteSampling old message) = calls.WriteSampling id message
asked_of id (calls.ReadSampling old) = calls.ReadSampling id
asked_of id (calls.SamplingStatus old) = calls.SamplingStatus id
asked_of id (calls.SendQueuing old message) = calls.SendQueuing id message
asked_of id (calls.ReceiveQueuing old) = calls.ReceiveQueuing id
asked_of id (calls.QueuingStatus old) = calls.QueuingStatus id
asked_of id (calls.ClearQueuing old) = calls.ClearQueuing id
asked_of id call = call

-- the identifier that a reply gives; 0 if it gives none
abbrev pub id_replied : Reply → ℕ
id_replied (replies.Id id) = id
id_replied _ = 0

-- a reply with another identifier instead of its own, if it has one
abbrev pub replied_of : ℕ → Reply → Reply
replied_of id (replies.Id old) = replies.Id id
replied_of id reply = reply

-- the name of the port that a call creates, or whose identifier it asks for
abbrev pub name_asked : Call → Option (List ℕ)
name_asked (calls.CreateSampling name size direction refresh) = Some name
name_asked (calls.CreateQueuing name size depth direction discipline) = Some name
name_asked (calls.SamplingId name) = Some name
name_asked (calls.QueuingId name) = Some name
name_asked _ = None

abbrev pub port_called : Configuration → ℕ → Option (List ℕ) → Option ℕ
port_called config partition None = None
port_called config partition (Some name) = id_named config partition name

-- our identifier of that port
abbrev pub port_asked : Configuration → ℕ → Call → Option ℕ
port_asked config partition call = port_called config partition (name_asked call)

-- ---- an entry in our identifiers

-- ours instead of an identifier that a reply gives to a port: the port's, if the identifier is known as the port's, or if
-- neither is known. Another port's identifier, and another identifier for the port, become 0, which departs
abbrev pub given_of : List PortId → Option ℕ → ℕ → ℕ
given_of ids None system = 0
given_of ids (Some port) system = if (ours_of ids system == port) || is_new ids system port then port else 0

-- the entry in our identifiers, given those known for its partition's ports
abbrev pub in_ours : Configuration → List PortId → Entry → Entry
in_ours config ids entry = record {
  partition = entry.partition;
  at = entry.at;
  call = asked_of (ours_of ids (id_asked entry.call)) entry.call;
  reply = replied_of (given_of ids (port_asked config entry.partition entry.call) (id_replied entry.reply)) entry.reply;
}

-- ---- what an entry makes known

-- the known identifiers, with that of a new port
abbrev pub known_with : List PortId → Option ℕ → Reply → List PortId
known_with ids (Some port) (replies.Id system) =
    if is_new ids system port then ids ++ record { system = system; ours = port } ∷ [] else ids
known_with ids port reply = ids

-- the partition was restarted
abbrev pub restarted : Call → Reply → Bool
restarted call reply = is_code_no_error reply && is_restart (mode_asked call)

-- the known identifiers after an entry of the partition
abbrev pub known_after : Configuration → List PortId → Entry → List PortId
known_after config ids entry =
    if restarted entry.call entry.reply then []
    else known_with ids (port_asked config entry.partition entry.call) entry.reply

-- ---- all partitions

-- the known identifiers of each partition's ports, if a log's identifiers are the system's
pub record Own : Type 0 where
  pub on : Bool
  pub known : List (List PortId)

-- nothing is known
abbrev pub none_known : Bool → Configuration → Own
none_known on config = record { on = on; known = replicate (length config.partitions) [] }

abbrev pub known_in : Own → ℕ → List PortId
known_in own partition = get_or own.known partition []

-- the entry as it is judged
abbrev pub entry_in_ours : Configuration → Own → Entry → Entry
entry_in_ours config own entry = if own.on then in_ours config (known_in own entry.partition) entry else entry

-- the known identifiers after an entry
abbrev pub own_after : Configuration → Own → Entry → Own
own_after config own entry =
    if own.on then record { on = true; known = set own.known entry.partition (known_after config (known_in own entry.partition) entry) }
    else own

-- ---- what was replaced

-- for a port that is created or asked for: its known identifier, and the port that has the identifier in the reply
abbrev pub known_of : List PortId → Option ℕ → ℕ → KnownIds
known_of ids None system = record { own = None; holder = None }
known_of ids (Some port) system = record { own = system_of ids port; holder = ours_in ids system }

abbrev pub replaced_by : Configuration → List PortId → Entry → Replaced
replaced_by config ids entry = record {
  asked = id_asked entry.call;
  replied = id_replied entry.reply;
  known = known_of ids (port_asked config entry.partition entry.call) (id_replied entry.reply);
}

abbrev pub replaced_in : Configuration → Own → Entry → Option Replaced
replaced_in config own entry = if own.on then Some (replaced_by config (known_in own entry.partition) entry) else None

-- the entry with the system's identifiers again
abbrev pub restored : Option Replaced → Entry → Entry
restored None entry = entry
restored (Some replaced) entry = record {
  partition = entry.partition;
  at = entry.at;
  call = asked_of replaced.asked entry.call;
  reply = replied_of replaced.replied entry.reply;
}
