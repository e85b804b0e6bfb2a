use Rattle.apex_ports.proofs.Common.{◌≡◌, ◌++◌, take}
use Rattle.std.specs.List.{flat_map}
use Rattle.apex_ports.specs.Packed.{packed_partition}
use Rattle.apex_ports.proofs.ports.saved.save_partitions.Given as goal

abbrev pub invariant-loop-partition : goal.invariant-loop-partition
invariant-loop-partition g l = l.bytes.items ≡ l.initial.bytes.items ++ flat_map packed_partition (take l.partition-index l.partitions)
