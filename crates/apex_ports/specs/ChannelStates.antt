-- What the state of a channel contains. A channel of the other kind has none of it.
use Rattle.std.specs.Prelude.{ℕ, Bool, true, false, List, [], Option, None}
use Rattle.apex_types.specs.declared.sample.Sample.{Sample}
use Rattle.apex_ports.specs.declared.channel.ChannelState.{ChannelState}
use Rattle.apex_ports.specs.declared.channel.ChannelState.TheVariants.{Queuing, Sampling}

abbrev pub has_queue : {A : Type 0} → ChannelState A → Bool
has_queue (Queuing queue) = true
has_queue (Sampling slot) = false

-- the messages that wait, oldest first
abbrev pub waiting_in : {A : Type 0} → ChannelState A → List (List ℕ)
waiting_in (Queuing queue) = queue.waiting.items
waiting_in (Sampling slot) = []

-- the number of messages that can wait
abbrev pub ring_depth : {A : Type 0} → ChannelState A → ℕ
ring_depth (Queuing queue) = queue.waiting.capacity
ring_depth (Sampling slot) = 0

-- the maximum length of a message, in bytes
abbrev pub message_size : {A : Type 0} → ChannelState A → ℕ
message_size (Queuing queue) = queue.waiting.size
message_size (Sampling slot) = slot.size

abbrev pub accepted_in : {A : Type 0} → ChannelState A → ℕ
accepted_in (Queuing queue) = queue.accepted
accepted_in (Sampling slot) = 0

abbrev pub received_in : {A : Type 0} → ChannelState A → ℕ
received_in (Queuing queue) = queue.received
received_in (Sampling slot) = 0

abbrev pub cleared_in : {A : Type 0} → ChannelState A → ℕ
cleared_in (Queuing queue) = queue.cleared
cleared_in (Sampling slot) = 0

abbrev pub sample_in : {A : Type 0} → ChannelState A → Option Sample
sample_in (Queuing queue) = None
sample_in (Sampling slot) = slot.sample
