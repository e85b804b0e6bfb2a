-- A saved state as bytes: its parts one after another. How many parts there are follows from the configuration.
use Rattle.std.specs.Prelude.{ℕ, ◌+◌, List, [], ◌∷◌, ◌++◌, length, if◌then◌else◌, Option, None, Some}
use Rattle.std.specs.List.{flat_map}
use Rattle.std.specs.Int.{w16, w32, w64, to_le_bytes}
use Rattle.apex_types.specs.Mode as mode
use Rattle.apex_types.specs.Validity as validity
use Rattle.apex_types.specs.declared.sample.Sample.{Sample}
use Rattle.apex_ports.specs.declared.partition.PartitionState.{PartitionState}
use Rattle.apex_ports.specs.declared.partition.PortState.{PortState}
use Rattle.apex_ports.specs.declared.channel.Queue.{Queue}
use Rattle.apex_ports.specs.declared.channel.ChannelState.{ChannelState}
use Rattle.apex_ports.specs.declared.channel.ChannelState.TheVariants.{Queuing, Sampling}

-- ---- numbers, their lowest byte first

unfoldable pub packed_number : ℕ → List ℕ
packed_number n = to_le_bytes w64 n

-- a number of messages
unfoldable pub packed_count : ℕ → List ℕ
packed_count n = to_le_bytes w32 n

-- the length of a message
unfoldable pub packed_length : ℕ → List ℕ
packed_length n = to_le_bytes w16 n

-- ---- partitions

-- the validity that its last read showed, and 2 more if it is created
abbrev pub port_byte : PortState → ℕ
port_byte port = validity.number_of port.last + (if port.created then 2 else 0)

abbrev pub packed_port : PortState → List ℕ
packed_port port = port_byte port ∷ []

-- the mode, and each port
abbrev pub packed_partition : {A : Type 0} → PartitionState A → List ℕ
packed_partition state = mode.number_of state.mode ∷ flat_map packed_port state.ports.items

-- ---- channels

-- the length, and the bytes
abbrev pub packed_message : List ℕ → List ℕ
packed_message message = packed_length (length message) ++ message

-- the number of messages, and each message
abbrev pub packed_messages : List (List ℕ) → List ℕ
packed_messages messages = packed_count (length messages) ++ flat_map packed_message messages

-- whether there is a sample, and its moment and its message
abbrev pub packed_sample : Option Sample → List ℕ
packed_sample None = 0 ∷ []
packed_sample (Some sample) = 1 ∷ (packed_number sample.at.0 ++ packed_message sample.message)

-- the counts of messages, and the messages that wait
abbrev pub packed_queue : {A : Type 0} → Queue A → List ℕ
packed_queue queue = packed_number queue.accepted ++ (packed_number queue.received ++ (packed_number queue.cleared ++ packed_messages queue.waiting.items))

abbrev pub packed_channel : {A : Type 0} → ChannelState A → List ℕ
packed_channel (Queuing queue) = packed_queue queue
packed_channel (Sampling slot) = packed_sample slot.sample

-- ---- the whole

-- each partition, each channel, and the number of calls of each partition
abbrev pub packed_state : {A : Type 0} → List (PartitionState A) → List (ChannelState A) → List ℕ → List ℕ
packed_state partitions channels calls = flat_map packed_partition partitions ++ (flat_map packed_channel channels ++ flat_map packed_number calls)
