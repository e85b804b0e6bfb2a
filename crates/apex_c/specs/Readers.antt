-- What the readers find of the history. A reader adds nothing to it.
use Rattle.std.specs.Prelude.{ℕ, List, length, slice_get, ok_or, option_map, Option, Ok, Err}
use Rattle.std.specs.Result.{result_ok}
use Rattle.apex_types.specs.Mode.{number_of}
use Rattle.apex_types.specs.declared.message.TheConstants.{MESSAGE_LIMIT}
use Rattle.apex_types.specs.declared.sample.Sample.{Sample}
use Rattle.apex_ports.specs.Channels.{accepted_on, cleared_on, last_write_on, received_on, waiting_on}
use Rattle.apex_ports.specs.Counts.{count_of}
use Rattle.apex_ports.specs.History.{entries_of}
use Rattle.apex_ports.specs.Modes.{mode_of}
use Rattle.apex_ports.specs.PortsView.{PortsView}
use Rattle.apex_c.specs.Found.{Found, for_buffer, in_channel, in_partition}
use Rattle.apex_c.specs.Held.{PortsHeld}
use Rattle.apex_c.specs.declared.answer.TheConstants.{NO_MESSAGE, NO_SAMPLE}
use Rattle.apex_c.specs.declared.counts.ChannelCount.{ChannelCount}
use Rattle.apex_c.specs.declared.counts.ChannelCount.TheVariants.{Accepted, Received, Cleared, Waiting}

-- ---- partitions

-- the number of a partition's mode
abbrev pub mode_in : PortsHeld → ℕ → Found ℕ
mode_in held p = in_partition held p (λ ports. Ok (number_of (mode_of p ports.history)))

-- how many calls a partition made
abbrev pub calls_in : PortsHeld → ℕ → Found ℕ
calls_in held p = in_partition held p (λ ports. Ok (count_of (entries_of p ports.history)))

-- ---- channels

abbrev pub count_on : ChannelCount → PortsView → ℕ → ℕ
count_on Accepted ports c = count_of (accepted_on ports.config c ports.history)
count_on Received ports c = count_of (received_on ports.config c ports.history)
count_on Cleared ports c = count_of (cleared_on ports.config c ports.history)
count_on Waiting ports c = length (waiting_on ports.config c ports.history)

-- a count of a channel
abbrev pub count_in : ChannelCount → PortsHeld → ℕ → Found ℕ
count_in which held c = in_channel held c (λ ports. Ok (count_on which ports c))

-- ---- messages, for a buffer of this many bytes

-- the message of an index among those that wait on a channel
abbrev pub waiting_in : ℕ → PortsHeld → ℕ → ℕ → Found (List ℕ)
waiting_in bytes held c index = for_buffer MESSAGE_LIMIT bytes
    (in_channel held c (λ ports. ok_or (slice_get (waiting_on ports.config c ports.history) index) NO_MESSAGE))

-- a channel's last sample
abbrev pub sample_in : ℕ → PortsHeld → ℕ → Found Sample
sample_in bytes held c = for_buffer MESSAGE_LIMIT bytes
    (in_channel held c (λ ports. ok_or (last_write_on ports.config c ports.history) NO_SAMPLE))

abbrev pub message_of : Found Sample → Option (List ℕ)
message_of found = option_map (λ sample. sample.message) (result_ok found)

abbrev pub moment_after : Found Sample → ℕ → ℕ
moment_after (Ok sample) given = sample.at.0
moment_after (Err number) given = given
