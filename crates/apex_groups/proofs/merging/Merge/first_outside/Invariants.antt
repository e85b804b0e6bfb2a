use Rattle.apex_groups.proofs.Common.{in_group, IsFirstUntil, next_moment}
use Rattle.apex_groups.proofs.merging.Merge.first_outside.Given as goal

abbrev pub invariant-loop-p : goal.invariant-loop-p
invariant-loop-p l = IsFirstUntil (in_group l.members.of_partitions.items 1) (next_moment l.clock l.scripts l.self.made.items) l.fn.limit l.p l.first l.last
