-- Groups of partitions that share no channel with the others, and lists with an item for each partition.
use Rattle.std.specs.Prelude.{ℕ, ◌≡◌, ◌≢◌, ◌<◌, ◌==◌, if◌then◌else◌, Bool, List, [], length, slice_get, unwrap_or, Some}
use Rattle.apex_groups.specs.Prelude.{Configuration, port_of, Port, IsClosed}

-- ---- groups

-- the number of a partition's or a channel's group
abbrev pub group_of : List ℕ → ℕ → ℕ
group_of groups place = unwrap_or (slice_get groups place) 0

-- the partitions of a group
abbrev pub in_group : List ℕ → ℕ → ℕ → Bool
in_group groups group p = group_of groups p == group

-- no partition is in the group
abbrev pub HasNone : Configuration → List ℕ → ℕ → Type 0
HasNone config groups group = (p : ℕ) → p < length config.partitions → group_of groups p ≢ group

-- the partition's group has the channels of its ports
abbrev pub HasItsChannels : Configuration → List ℕ → List ℕ → ℕ → Type 0
HasItsChannels config groups channels p =
    (id : ℕ) (port : Port) → port_of config p id ≡ Some port → group_of channels port.channel ≡ group_of groups p

-- no two groups share a channel, and each has the number of a partition
pub record AreApart (config : Configuration) (groups : List ℕ) : Type 0 where
  pub closed : (group : ℕ) → IsClosed config (in_group groups group)
  pub within : (p : ℕ) → p < length config.partitions → group_of groups p < length config.partitions

-- ---- lists with an item for each partition

-- the list, with the items of another for the partitions inside
pub record AreExchanged {X : Type 0} (inside : ℕ → Bool) (xs other exchanged : List X) : Type 0 where
  pub count : length exchanged ≡ length xs
  pub each : (p : ℕ) → slice_get exchanged p ≡ (if inside p then slice_get other p else slice_get xs p)

-- the list of a partition; no items if it has none
abbrev pub list_of : {X : Type 0} → List (List X) → ℕ → List X
list_of lists p = unwrap_or (slice_get lists p) []

-- the lists of the partitions inside, and no items for the others
abbrev pub IsPart : {X : Type 0} → (ℕ → Bool) → List (List X) → List (List X) → Type 0
IsPart inside lists part = (p : ℕ) → list_of part p ≡ (if inside p then list_of lists p else [])
