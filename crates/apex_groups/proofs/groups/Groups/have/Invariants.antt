use Rattle.apex_groups.proofs.Common.{◌≢◌, ◌<◌, ℕ, group_of}
use Rattle.apex_groups.proofs.groups.Groups.have.Given as goal

abbrev pub invariant-loop-p : goal.invariant-loop-p
invariant-loop-p l = (q : ℕ) → q < l.p → group_of l.self.of_partitions.items q ≢ l.group
