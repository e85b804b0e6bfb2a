use Rattle.apex_ports.proofs.Common.{◌≡◌, [], length, EachAt, IsPartitionKept}
use Rattle.apex_ports.proofs.initial_state.new_partitions.Given as goal

abbrev pub invariant-loop-p : goal.invariant-loop-p
invariant-loop-p g l = record {
  count : length l.partitions.items ≡ l.p;
  kept : EachAt (IsPartitionKept l.config []) l.partitions.items;
}
