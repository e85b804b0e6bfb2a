-- The report of a history: a line for each entry, each partition and each channel.
use Rattle.std.specs.Prelude.{ℕ, ◌+◌, ◌==◌, if◌then◌else◌, List, [], ◌∷◌, ◌++◌, length, codes, decimal, Option, Some, None, unwrap_or}
use Rattle.apex_texts.specs.Prelude.{hex_text_of, Call, Moment, Configuration, PartitionData, partition_name_of, Entry, History, entries_of, accepted_on, received_on, cleared_on, waiting_on, last_write_on}
use Rattle.apex_types.specs.Direction.{word_of as direction_word}
use Rattle.apex_types.specs.Mode.{word_of as mode_word}
use Rattle.apex_types.specs.ReturnCode.{word_of as code_word}
use Rattle.apex_types.specs.Validity.{word_of as validity_word}
use Rattle.apex_types.specs.declared.direction.Direction.{Direction}
use Rattle.apex_types.specs.declared.validity.Validity.{Validity}
use Rattle.apex_types.specs.declared.reply.Reply.{Reply}
use Rattle.apex_types.specs.declared.reply.Reply.TheVariants.{NotMade, Code, Id, Received, Read, QueuingStatus, SamplingStatus}
use Rattle.apex_module.specs.declared.channel.Channel.{Channel}
use Rattle.apex_module.specs.declared.channel.ChannelKind.{ChannelKind}
use Rattle.apex_module.specs.declared.channel.ChannelKind.TheVariants as kinds
use Rattle.apex_types.specs.declared.sample.Sample.{Sample}
use Rattle.apex_ports.specs.Modes.{mode_of}
use Rattle.apex_texts.specs.Service.{word_of, service_of}

-- ---- replies

-- GET_QUEUING_PORT_STATUS: WAITING_PROCESSES is always 0
unfoldable pub queuing_status_text : ℕ → ℕ → ℕ → Direction → List ℕ
queuing_status_text waiting depth size direction =
    codes "NO_ERROR waiting " ++ decimal waiting ++ codes " depth " ++ decimal depth ++ codes " size " ++ decimal size ++ codes " " ++ direction_word direction ++ codes " processes 0"

-- GET_SAMPLING_PORT_STATUS
unfoldable pub sampling_status_text : ℕ → ℕ → Direction → Validity → List ℕ
sampling_status_text refresh size direction last =
    codes "NO_ERROR refresh " ++ decimal refresh ++ codes " size " ++ decimal size ++ codes " " ++ direction_word direction ++ codes " last " ++ validity_word last

unfoldable pub reply_text : Reply → List ℕ
reply_text NotMade = codes "not made"
reply_text (Code code) = code_word code
reply_text (Id id) = codes "NO_ERROR id " ++ decimal id
reply_text (Received message) = codes "NO_ERROR message " ++ hex_text_of message
reply_text (Read message validity) = codes "NO_ERROR message " ++ hex_text_of message ++ codes " " ++ validity_word validity
reply_text (QueuingStatus waiting depth size direction) = queuing_status_text waiting depth size direction
reply_text (SamplingStatus refresh size direction last) = sampling_status_text refresh size direction last

-- ---- the log

-- the name of a partition of the configuration
abbrev pub name_of_partition : Configuration → ℕ → List ℕ
name_of_partition config p = unwrap_or (partition_name_of config p) []

-- NUMBER MOMENT PARTITION CALLWORD REPLY
unfoldable pub entry_line : ℕ → List ℕ → Moment → Call → Reply → List ℕ
entry_line number name at call reply =
    decimal number ++ codes " " ++ decimal at.0 ++ codes " " ++ name ++ codes " " ++ word_of (service_of call) ++ codes " " ++ reply_text reply ++ codes "\n"

-- the line of the entry with this number
abbrev pub line_of : Configuration → ℕ → Entry → List ℕ
line_of config number entry = entry_line number (name_of_partition config entry.partition) entry.at entry.call entry.reply

-- the lines of entries, the first of which has this number
unfoldable pub entry_lines : Configuration → ℕ → History → List ℕ
entry_lines config number [] = []
entry_lines config number (entry ∷ rest) = line_of config number entry ++ entry_lines config (number + 1) rest

-- ---- partitions

-- `partition NAME mode MODE calls N`; the calls that were not made count too
unfoldable pub partition_line : History → ℕ → List ℕ → List ℕ
partition_line history p name =
    codes "partition " ++ name ++ codes " mode " ++ mode_word (mode_of p history) ++ codes " calls " ++ decimal (length (entries_of p history)) ++ codes "\n"

-- the lines of partitions, the first of which has this number
unfoldable pub partition_lines : History → ℕ → List PartitionData → List ℕ
partition_lines history p [] = []
partition_lines history p (partition ∷ rest) = partition_line history p partition.name ++ partition_lines history (p + 1) rest

-- ---- channels

-- each message after a space
unfoldable pub messages_text : List (List ℕ) → List ℕ
messages_text [] = []
messages_text (message ∷ rest) = codes " " ++ hex_text_of message ++ messages_text rest

-- the number of cleared messages, if there are any
unfoldable pub cleared_text : ℕ → List ℕ
cleared_text count = if count == 0 then [] else codes " cleared " ++ decimal count

-- the counts of a queuing channel, and the waiting messages, oldest first
unfoldable pub queue_text : Configuration → ℕ → History → List ℕ
queue_text config c history =
    codes " accepted " ++ decimal (length (accepted_on config c history)) ++ codes " received " ++ decimal (length (received_on config c history)) ++ cleared_text (length (cleared_on config c history)) ++ codes " waiting " ++ decimal (length (waiting_on config c history)) ++ messages_text (waiting_on config c history)

-- the last sample of a sampling channel
unfoldable pub sample_text : Option Sample → List ℕ
sample_text None = codes " empty"
sample_text (Some sample) = codes " " ++ hex_text_of sample.message ++ codes " at " ++ decimal sample.at.0

unfoldable pub channel_text : Configuration → History → ℕ → List ℕ → ChannelKind → List ℕ
channel_text config history c name (kinds.Queuing depth) = codes "queuing " ++ name ++ queue_text config c history
channel_text config history c name kinds.Sampling = codes "sampling " ++ name ++ sample_text (last_write_on config c history)

-- the lines of channels, the first of which has this number
unfoldable pub channel_lines : Configuration → History → ℕ → List Channel → List ℕ
channel_lines config history c [] = []
channel_lines config history c (channel ∷ rest) = channel_text config history c channel.name channel.kind ++ codes "\n" ++ channel_lines config history (c + 1) rest

-- ---- the whole

-- the lines after those of the calls
unfoldable pub totals_of : Configuration → History → List ℕ
totals_of config history = partition_lines history 0 config.partitions ++ channel_lines config history 0 config.channels

unfoldable pub report_of : Configuration → History → List ℕ
report_of config history = entry_lines config 1 history ++ totals_of config history
