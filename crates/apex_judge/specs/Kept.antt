-- What the state of a judge says about the log: the picture that the log gives.
use Rattle.std.specs.Prelude.{ℕ, ◌≡◌, ◌≤◌, ◌-◌, ◌^◌, ◌==◌, Bool, false, if◌then◌else◌, List, length, slice_get, Option, Some, None}
use Rattle.apex_judge.specs.Prelude.{Call, Moment, Reply, Validity, Invalid, Configuration, ports_of, Entry, History, entry_of, EachAt, IsIdentifier}
use Rattle.apex_judge.specs.declared.partition.PortState.{PortState}
use Rattle.apex_judge.specs.declared.partition.PartitionState.{PartitionState}
use Rattle.apex_judge.specs.declared.channel.ChannelState.{ChannelState}
use Rattle.apex_judge.specs.declared.state.State.{State}
use Rattle.apex_judge.specs.declared.subject.Subject.{Subject}
use Rattle.apex_judge.specs.declared.subject.Subject.TheVariants.{Mode, Port, Nothing}
use Rattle.apex_judge.specs.Picture.{Picture}
use Rattle.apex_judge.specs.Evidence.{with_evidence}
use Rattle.apex_judge.specs.Steps.{picture_of, with_effects}

abbrev pub created_in : Option PortState → Bool
created_in None = false
created_in (Some state) = state.created

abbrev pub last_in : Option PortState → Validity
last_in None = Invalid
last_in (Some state) = state.last

abbrev pub doubted_in : Option PortState → Bool
doubted_in None = false
doubted_in (Some state) = state.doubted

abbrev pub state_at : List PortState → ℕ → Option PortState
state_at states id = if id == 0 then None else slice_get states (id - 1)

-- whether what an entry is about is doubted
abbrev pub doubted_of : {A : Type 0} → PartitionState A → Subject → Bool
doubted_of state Mode = state.doubted
doubted_of state (Port id) = doubted_in (state_at state.ports.items id)
doubted_of state Nothing = false

-- the state of a partition; a log can name identifiers that no port has, and what it says about them is ignored
pub record IsPartitionShown {A : Type 0} (config : Configuration) (picture : Picture) (p : ℕ) (state : PartitionState A) : Type 0 where
  pub mode : state.mode ≡ picture.mode p
  pub mode_doubted : state.doubted ≡ picture.is_mode_doubted p
  pub ports : length state.ports.items ≡ length (ports_of config p)
  pub created : (id : ℕ) → IsIdentifier (ports_of config p) id → created_in (state_at state.ports.items id) ≡ picture.created p id
  pub last : (id : ℕ) → IsIdentifier (ports_of config p) id → last_in (state_at state.ports.items id) ≡ picture.last p id
  pub port_doubted : (id : ℕ) → IsIdentifier (ports_of config p) id → doubted_in (state_at state.ports.items id) ≡ picture.is_port_doubted p id

pub record IsChannelShown {A : Type 0} (picture : Picture) (c : ℕ) (state : ChannelState A) : Type 0 where
  pub waiting : state.waiting ≡ picture.waiting c
  pub few : length state.waiting ≤ 2 ^ 32 - 1
  pub sample : state.sample ≡ picture.sample c

pub record AreShown {A : Type 0} (config : Configuration) (picture : Picture) (partitions : List (PartitionState A)) (channels : List (ChannelState A)) : Type 0 where
  pub all_partitions : length partitions ≡ length config.partitions
  pub all_channels : length channels ≡ length config.channels
  pub each_partition : EachAt (IsPartitionShown config picture) partitions
  pub each_channel : EachAt (IsChannelShown picture) channels

-- the state is a picture
abbrev pub Shows : {A : Type 0} → Configuration → Picture → State A → Type 0
Shows config picture state = AreShown config picture state.partitions.items state.channels.items

-- the state is the picture that the log gives
abbrev pub IsShown : {A : Type 0} → Configuration → History → State A → Type 0
IsShown config log state = Shows config (picture_of config log) state

-- ---- one more entry

-- for any picture, an entry of the partition is applied to the partition's state
abbrev pub PartitionNotes : {A : Type 0} → Call → Reply → PartitionState A → PartitionState A → Type 0
PartitionNotes call reply old new = (config : Configuration) (picture : Picture) (p : ℕ) (at : Moment) →
    IsPartitionShown config picture p old → IsPartitionShown config (with_effects config (entry_of p at call reply) picture) p new

-- whatever the picture, the channels go from it to another
abbrev pub ChannelsGo : {A : Type 0} → (Picture → Picture) → List (ChannelState A) → List (ChannelState A) → Type 0
ChannelsGo step old new = (picture : Picture) → EachAt (IsChannelShown picture) old → EachAt (IsChannelShown (step picture)) new

-- the channels go along with the entry
abbrev pub ChannelsNote : {A : Type 0} → Configuration → Entry → List (ChannelState A) → List (ChannelState A) → Type 0
ChannelsNote config entry old new = ChannelsGo (with_effects config entry) old new

-- the channels go along with the effects of an entry, and with what the reply of one shows
abbrev pub ChannelsBelieve : {A : Type 0} → Configuration → Entry → Entry → List (ChannelState A) → List (ChannelState A) → Type 0
ChannelsBelieve config effects entry old new = ChannelsGo (λ picture. with_evidence config entry (with_effects config effects picture)) old new

-- the channels show what they showed
abbrev pub ChannelsStay : {A : Type 0} → List (ChannelState A) → List (ChannelState A) → Type 0
ChannelsStay old new = ChannelsGo (λ picture. picture) old new
