-- What is worth a look when a trace has ended: the remarks.
use Rattle.std.specs.Prelude.{ℕ, Bool, true, false, ◌+◌, ◌&&◌, ◌==◌, nat_lt, not, if◌then◌else◌, List, [], ◌∷◌, ◌++◌, length, map}
use Rattle.dekarino_texts.specs.Prelude.{list_any, flat_map, Moment, Reply, Configuration, PartitionData, Port, Entry, is_read, validity_in, waiting_on, last_write_on, History, creates, is_created, is_source, name_of_partition}
use Rattle.std.specs.Option.{is_some}
use Rattle.apex_types.specs.declared.reply.Reply.TheVariants.{NotMade}
use Rattle.apex_module.specs.declared.channel.Channel.{Channel}
use Rattle.dekarino_texts.specs.declared.remark.Remark.{Remark}
use Rattle.dekarino_texts.specs.declared.remark.Remark.TheVariants.{MomentBefore, CallNotMade, PortNotCreated, PortLost, NoSampleRead, MessagesWaiting}

-- an entry with the number of its line in the trace, from 1
pub record LineEntry : Type 0 where
  pub line : ℕ
  pub entry : Entry

-- the history of entries with the numbers of their lines
abbrev pub history_of : List LineEntry → History
history_of log = map (λ one. one.entry) log

-- ---- calls

-- the remark on the call in a line, at a moment, if the call before it was at the moment `last`
abbrev pub earlier : Moment → ℕ → Moment → List Remark
earlier last line at = if nat_lt at.0 last.0 then MomentBefore line at last ∷ [] else []

-- the remarks on the moments of calls that follow one at the moment `last`
abbrev pub moment_remarks : Moment → List LineEntry → List Remark
moment_remarks last [] = []
moment_remarks last (one ∷ rest) = earlier last one.line one.entry.at ++ moment_remarks one.entry.at rest

-- the reply of a call that was not made
abbrev pub is_not_made : Reply → Bool
is_not_made NotMade = true
is_not_made _ = false

-- the remark on the call of a partition in a line, if it was not made
abbrev pub not_made : Configuration → ℕ → ℕ → Reply → List Remark
not_made config line p reply = if is_not_made reply then CallNotMade line (name_of_partition config p) ∷ [] else []

-- the remarks on calls that were not made
abbrev pub idle_remarks : Configuration → List LineEntry → List Remark
idle_remarks config log = flat_map (λ one. not_made config one.line one.entry.partition one.entry.reply) log

-- ---- ports

-- the entry read a sample at the port (READ_SAMPLING_MESSAGE)
abbrev pub shows_sample : ℕ → ℕ → Entry → Bool
shows_sample partition id entry = (is_read id entry.call && (entry.partition == partition)) && is_some (validity_in entry.reply)

-- no sample was read at a destination port, though one was written into its channel
abbrev pub is_unread : Configuration → History → ℕ → ℕ → Port → Bool
is_unread config history p id port =
    not (is_source port.direction) && (is_some (last_write_on config port.channel history) && not (list_any (shows_sample p id) history))

-- the remark on a port that was created, if a restart of its partition lost it and no call created it again
abbrev pub lost_remark : History → ℕ → List ℕ → ℕ → Port → List Remark
lost_remark history p name id port = if is_created p id history then [] else PortLost name port.name ∷ []

-- the remark on a port at which no sample was read
abbrev pub unread_remark : Configuration → History → ℕ → List ℕ → ℕ → Port → List Remark
unread_remark config history p name id port = if is_unread config history p id port then NoSampleRead name port.name ∷ [] else []

-- the remarks on a port of the partition with this number and name
abbrev pub port_remark : Configuration → History → ℕ → List ℕ → ℕ → Port → List Remark
port_remark config history p name id port =
    if not (list_any (creates p id) history) then PortNotCreated name port.name ∷ []
    else lost_remark history p name id port ++ unread_remark config history p name id port

-- the remarks on ports of which the first has this identifier
unfoldable pub port_remarks : Configuration → History → ℕ → List ℕ → ℕ → List Port → List Remark
port_remarks config history p name id [] = []
port_remarks config history p name id (port ∷ rest) = port_remark config history p name id port ++ port_remarks config history p name (id + 1) rest

-- the remarks on the ports of partitions of which the first has this number
unfoldable pub partition_remarks : Configuration → History → ℕ → List PartitionData → List Remark
partition_remarks config history p [] = []
partition_remarks config history p (partition ∷ rest) = port_remarks config history p partition.name 1 partition.ports ++ partition_remarks config history (p + 1) rest

-- ---- channels

-- the remark on a channel on which this number of messages wait
abbrev pub waiting_remark : List ℕ → ℕ → List Remark
waiting_remark name count = if count == 0 then [] else MessagesWaiting name count ∷ []

-- the remarks on channels of which the first has this number
unfoldable pub channel_remarks : Configuration → History → ℕ → List Channel → List Remark
channel_remarks config history c [] = []
channel_remarks config history c (channel ∷ rest) = waiting_remark channel.name (length (waiting_on config c history)) ++ channel_remarks config history (c + 1) rest

-- ---- the whole

-- the moment before the first call
abbrev pub start : Moment
start = record { 0 = 0 }

-- the remarks on all entries of a trace: on moments, on calls, on ports, on channels
abbrev pub remarks_of : Configuration → List LineEntry → List Remark
remarks_of config log =
    let history = history_of log in
    moment_remarks start log ++ idle_remarks config log ++ partition_remarks config history 0 config.partitions ++ channel_remarks config history 0 config.channels
