use Rattle.apex_ports.proofs.Common.{HasAsManyPorts, IsSameTable}
use Rattle.apex_ports.specs.Packed.{packed_partition}
use Rattle.apex_ports.proofs.PackedItems.{AreReading}
use Rattle.apex_ports.proofs.ports.saved.restore_partitions.Given as goal

abbrev pub invariant-loop-partition : goal.invariant-loop-partition
invariant-loop-partition g l = AreReading packed_partition HasAsManyPorts IsSameTable l.initial.partitions l.initial.reader l.partition-index l.partitions l.reader
