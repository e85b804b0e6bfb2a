use Rattle.apex_config.proofs.Common.{take, CountEnds}
use Rattle.apex_config.proofs.ends.end_counts.Given as goal

abbrev pub invariant-loop-partition : goal.invariant-loop-partition
invariant-loop-partition l = CountEnds l.direction l.channels (take l.partition-index l.partitions) l.counts.items
