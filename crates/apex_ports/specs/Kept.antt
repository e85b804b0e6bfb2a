-- The state follows from the history: each part equals what its definition filters out of the history.
use Rattle.std.specs.Prelude.{ℕ, ◌≡◌, ◌-◌, ◌==◌, Bool, false, if◌then◌else◌, List, [], ◌∷◌, ◌++◌, length, slice_get, Option, Some, None}
use Rattle.apex_types.specs.declared.validity.Validity.{Validity}
use Rattle.apex_types.specs.declared.validity.Validity.TheVariants.{Invalid}
use Rattle.std.specs.declared.vec.Vec.{Vec}
use Rattle.apex_module.specs.Configuration.{Configuration, ports_of}
use Rattle.apex_ports.specs.declared.history.Entry.{Entry}
use Rattle.apex_ports.specs.declared.partition.PortState.{PortState}
use Rattle.apex_ports.specs.declared.partition.PartitionState.{PartitionState}
use Rattle.apex_ports.specs.declared.channel.ChannelState.{ChannelState}
use Rattle.apex_ports.specs.declared.state.State.{State}
use Rattle.apex_ports.specs.ChannelStates.{has_queue, waiting_in, ring_depth, message_size, accepted_in, received_in, cleared_in, sample_in}
use Rattle.apex_ports.specs.Counts.{count_of}
use Rattle.apex_ports.specs.History.{History, entries_of}
use Rattle.apex_ports.specs.Modes.{mode_of}
use Rattle.apex_ports.specs.Ports.{is_created, is_queuing}
use Rattle.apex_ports.specs.Channels.{accepted_on, received_on, cleared_on, waiting_on, last_write_on, last_validity_of}
use Rattle.apex_ports.specs.ReplyTable.{channel_size, depth_of}
use Rattle.apex_ports.specs.Sound.{IsSound}

-- what holds for the item at each index
abbrev pub EachAt : {X : Type 0} → (ℕ → X → Type 0) → List X → Type 0
EachAt {X} P xs = (k : ℕ) (x : X) → slice_get xs k ≡ Some x → P k x

-- ---- partitions

abbrev pub created_in : Option PortState → Bool
created_in None = false
created_in (Some state) = state.created

abbrev pub last_in : Option PortState → Validity
last_in None = Invalid
last_in (Some state) = state.last

abbrev pub state_at : List PortState → ℕ → Option PortState
state_at states id = if id == 0 then None else slice_get states (id - 1)

pub record IsPartitionKept {A : Type 0} (config : Configuration) (history : History) (p : ℕ) (state : PartitionState A) : Type 0 where
  pub mode : state.mode ≡ mode_of p history
  pub ports : length state.ports.items ≡ length (ports_of config p)
  pub created : (id : ℕ) → created_in (state_at state.ports.items id) ≡ is_created p id history
  pub last : (id : ℕ) → last_in (state_at state.ports.items id) ≡ last_validity_of p id history

-- ---- channels

pub record IsChannelKept {A : Type 0} (config : Configuration) (history : History) (c : ℕ) (state : ChannelState A) : Type 0 where
  pub kind : has_queue state ≡ is_queuing config c
  pub waiting : waiting_in state ≡ waiting_on config c history
  pub depth : ring_depth state ≡ depth_of config c
  pub size : message_size state ≡ channel_size config c
  pub accepted : accepted_in state ≡ count_of (accepted_on config c history)
  pub received : received_in state ≡ count_of (received_on config c history)
  pub cleared : cleared_in state ≡ count_of (cleared_on config c history)
  pub sample : sample_in state ≡ last_write_on config c history

-- ---- the whole

pub record AreKept {A : Type 0} (config : Configuration) (history : History) (partitions : List (PartitionState A)) (channels : List (ChannelState A)) : Type 0 where
  pub all_partitions : length partitions ≡ length config.partitions
  pub all_channels : length channels ≡ length config.channels
  pub each_partition : EachAt (IsPartitionKept config history) partitions
  pub each_channel : EachAt (IsChannelKept config history) channels

-- the state follows from the history
abbrev pub IsKept : {A : Type 0} → Configuration → History → State A → Type 0
IsKept config history state = AreKept config history state.partitions.items state.channels.items

-- the number of calls of each partition, including those that were not made
pub record AreCounted (config : Configuration) (history : History) (calls : List ℕ) : Type 0 where
  pub all : length calls ≡ length config.partitions
  pub each : EachAt (λ p count. count ≡ count_of (entries_of p history)) calls

-- the state follows from its history, which is sound
pub record IsCurrent {A : Type 0} (config : Configuration) (state : State A) : Type 0 where
  pub sound : IsSound config state.history
  pub kept : IsKept config state.history state

-- the new state follows from the history with one more entry
abbrev pub IsKeptWith : {A : Type 0} → Configuration → State A → Entry → State A → Type 0
IsKeptWith config old entry new = IsKept config (old.history ++ entry ∷ []) new

-- what holds for the ports of a module
pub record IsPortsKept {A : Type 0} (config : Configuration) (state : State A) (calls : Vec ℕ A) : Type 0 where
  pub sound : IsSound config state.history
  pub kept : IsKept config state.history state
  pub counted : AreCounted config state.history calls.items
