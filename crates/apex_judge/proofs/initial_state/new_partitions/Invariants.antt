use Rattle.apex_judge.proofs.Common.{◌≡◌, length, EachAt, IsPartitionShown, opening}
use Rattle.apex_judge.proofs.initial_state.new_partitions.Given as goal

abbrev pub invariant-loop-p : goal.invariant-loop-p
invariant-loop-p g l = record {
  count : length l.partitions.items ≡ l.p;
  shown : EachAt (IsPartitionShown l.config opening) l.partitions.items;
}
