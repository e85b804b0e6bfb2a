-- Groups that share no channel.
use Rattle.apex_groups.proofs.Common.{◌≡◌, ℕ, ◌<◌, ◌==◌, Bool, true, false, if◌then◌else◌, List, length, Option, Some, None, refl, sym, ap, ◌∙◌, slice_get, slice_get_within, Configuration, PartitionData, port_of, port_at, ports_of_partition, Port, AreApart, HasItsChannels, group_of}

pub owner_within : (config : Configuration) (p id : ℕ) (port : Port) → port_of config p id ≡ Some port → p < length config.partitions
owner_within config p id port found = of_partition (slice_get config.partitions p) refl found
  where
    none_at : (b : Bool) → ◌≡◌ {A = Option Port} (if b then None else None) (Some port) → ⊥
    none_at true is = absurd cc
    none_at false is = absurd cc

    of_partition : (o : Option PartitionData) → slice_get config.partitions p ≡ o → port_at (ports_of_partition o) id ≡ Some port → p < length config.partitions
    of_partition None is at = absurd (none_at (id == 0) at)
    of_partition (Some partition) is at = slice_get_within config.partitions p partition is

pub groups_apart : (config : Configuration) (groups channels : List ℕ)
    → ((p : ℕ) → p < length config.partitions → (group_of groups p < length config.partitions) × HasItsChannels config groups channels p) → AreApart config groups
groups_apart config groups channels each = record {
  closed = λ group p id q jd port other mine theirs shared. ap (λ (g : ℕ). g == group) (
      sym ((each p (owner_within config p id port mine)).1 id port mine)
      ∙ (ap (group_of channels) shared ∙ (each q (owner_within config q jd other theirs)).1 jd other theirs));
  within = λ p inside. (each p inside).0;
}
