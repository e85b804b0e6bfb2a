use Rattle.apex_groups.proofs.Common.{in_group, AreCounted}
use Rattle.apex_groups.proofs.MergeSteps.{left_after}
use Rattle.apex_groups.proofs.Merges.{IsAdding}
use Rattle.apex_groups.proofs.merging.Merge.make_before.Given as goal

abbrev pub invariant-loop-p : goal.invariant-loop-p
invariant-loop-p l = record {
  counted : AreCounted l.config l.scripts l.self.order.items l.self.made.items;
  adding : IsAdding l.clock l.config l.scripts (in_group l.members.of_partitions.items 1) l.limit l.fn.self.order.items l.self.order.items;
}

abbrev pub decreases-loop-p : goal.decreases-loop-p
decreases-loop-p l = left_after l.config l.scripts l.self.order.items
