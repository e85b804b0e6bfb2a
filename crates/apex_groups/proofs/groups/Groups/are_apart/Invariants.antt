use Rattle.apex_groups.proofs.Common.{◌<◌, ℕ, length, HasItsChannels, group_of}
use Rattle.apex_groups.proofs.groups.Groups.are_apart.Given as goal

abbrev pub invariant-loop-p : goal.invariant-loop-p
invariant-loop-p l =
    (q : ℕ) → q < l.p
    → (group_of l.self.of_partitions.items q < length l.config.partitions) × HasItsChannels l.config l.self.of_partitions.items l.self.of_channels.items q
