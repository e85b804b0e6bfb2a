use Rattle.std.proofs.Common.{◌≡◌, take}
use Rattle.apex_module.proofs.config.copies_of_partitions.Given as goal

abbrev pub invariant-loop-partition : goal.invariant-loop-partition
invariant-loop-partition l = l.made.items ≡ take l.partition-index l.partitions
