-- Saved ports follow from the history as the state does, and their bytes are read back.
use Rattle.std.specs.Prelude.{ℕ, ◌≡◌, ◌^◌, ◌<◌, ◌≤◌, List, ◌++◌, length, slice_get, Option, None, Some}
use Rattle.std.specs.declared.vec.Vec.{Vec}
use Rattle.apex_types.specs.declared.message.TheConstants.{MESSAGE_LIMIT}
use Rattle.apex_types.specs.declared.sample.Sample.{Sample}
use Rattle.apex_module.specs.Configuration.{Configuration}
use Rattle.apex_ports.specs.declared.partition.PartitionState.{PartitionState}
use Rattle.apex_ports.specs.declared.channel.Queue.{Queue}
use Rattle.apex_ports.specs.declared.channel.ChannelState.{ChannelState}
use Rattle.apex_ports.specs.declared.channel.ChannelState.TheVariants.{Queuing, Sampling}
use Rattle.apex_ports.specs.ChannelStates.{has_queue, ring_depth, message_size}
use Rattle.apex_ports.specs.History.{History}
use Rattle.apex_ports.specs.Kept.{EachAt, AreKept, AreCounted}
use Rattle.apex_ports.specs.MessageRing.{Messages, AreShort}
use Rattle.apex_ports.specs.Packed.{packed_state}
use Rattle.apex_ports.specs.Sound.{IsSound}

-- the lists are of the same length, and the items at the same index are so related
pub record EachOf {X Y : Type 0} (P : X → Y → Type 0) (xs : List X) (ys : List Y) : Type 0 where
  pub count : length ys ≡ length xs
  pub each : (k : ℕ) (x : X) (y : Y) → slice_get xs k ≡ Some x → slice_get ys k ≡ Some y → P x y

-- if the bytes before begin with something packed that fits, this is what is read, and the bytes behind it are left
abbrev pub Reads : {X : Type 0} → (X → List ℕ) → (X → Type 0) → (X → Type 0) → List ℕ → List ℕ → Type 0
Reads {X} packed Fits IsRead before after = (x : X) (rest : List ℕ) → Fits x → before ≡ packed x ++ rest → IsRead x × (after ≡ rest)

-- ---- partitions

-- a partition has as many ports as a saved one
abbrev pub HasAsManyPorts : {A : Type 0} → PartitionState A → PartitionState A → Type 0
HasAsManyPorts state saved = length saved.ports.items ≡ length state.ports.items

-- a partition has the mode and the ports of a saved one
pub record IsSameTable {A : Type 0} (saved state : PartitionState A) : Type 0 where
  pub mode : state.mode ≡ saved.mode
  pub ports : state.ports.items ≡ saved.ports.items

-- ---- channels

-- no more messages wait than may, none is too long, and their number and each length fit into their bytes
pub record AreWithin (waiting : Messages) : Type 0 where
  pub few : length waiting.items ≤ waiting.capacity
  pub small : waiting.capacity < 2 ^ 32
  pub short : AreShort waiting.size waiting.items
  pub wide : waiting.size ≤ MESSAGE_LIMIT

-- a ring is of the capacity and the size of a saved one
pub record IsRingFor (waiting saved : Messages) : Type 0 where
  pub capacity : waiting.capacity ≡ saved.capacity
  pub size : waiting.size ≡ saved.size
  pub within : AreWithin saved

-- the counts and the messages fit into their bytes
pub record IsQueuePackable {A : Type 0} (queue : Queue A) : Type 0 where
  pub waiting : AreWithin queue.waiting
  pub accepted : queue.accepted < 2 ^ 64
  pub received : queue.received < 2 ^ 64
  pub cleared : queue.cleared < 2 ^ 64

-- the moment and the message fit into their bytes
pub record IsSamplePackable (size : ℕ) (sample : Sample) : Type 0 where
  pub at : sample.at.0 < 2 ^ 64
  pub short : length sample.message ≤ size
  pub wide : length sample.message ≤ MESSAGE_LIMIT

abbrev pub IsSlotPackable : ℕ → Option Sample → Type 0
IsSlotPackable size None = Unit {0}
IsSlotPackable size (Some sample) = IsSamplePackable size sample

abbrev pub IsPackable : {A : Type 0} → ChannelState A → Type 0
IsPackable (Queuing queue) = IsQueuePackable queue
IsPackable (Sampling slot) = IsSlotPackable slot.size slot.sample

-- a channel is of the kind, the depth and the size of a saved one
pub record HasRoomFor {A : Type 0} (state saved : ChannelState A) : Type 0 where
  pub kind : has_queue state ≡ has_queue saved
  pub depth : ring_depth state ≡ ring_depth saved
  pub size : message_size state ≡ message_size saved
  pub packable : IsPackable saved

-- ---- the whole

-- there are as many counts as before, each of 64 bits
abbrev pub AreCounts : List ℕ → List ℕ → Type 0
AreCounts = EachOf (λ _ n. n < 2 ^ 64)

-- the bytes are a packed state that follows from the history
pub record IsSavedKept {A : Type 0} (config : Configuration) (history : History) (bytes : Vec ℕ A) : Type 0 where
  pub partitions : List (PartitionState A)
  pub channels : List (ChannelState A)
  pub calls : List ℕ
  pub sound : IsSound config history
  pub kept : AreKept config history partitions channels
  pub packable : EachAt (λ _ state. IsPackable state) channels
  pub counted : AreCounted config history calls
  pub packed : bytes.items ≡ packed_state partitions channels calls
