use Rattle.apex_groups.proofs.Common.{take, in_group, AreCounted, IsMerged}
use Rattle.apex_groups.proofs.merging.merge_calls.Given as goal

abbrev pub invariant-loop-p : goal.invariant-loop-p
invariant-loop-p l = record {
  counted : AreCounted l.config l.scripts l.merge.order.items l.merge.made.items;
  merged : IsMerged l.clock l.config l.scripts (in_group l.members.of_partitions.items 1) (take l.p-index l.p-items) l.merge.order.items;
}
