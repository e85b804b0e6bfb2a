use Rattle.apex_ports.proofs.Common.{arith, length, ◌<◌, slice_index_or, slice_get-get_or, HasAsManyPorts, IsSameTable}
use Rattle.apex_ports.specs.Packed.{packed_partition}
use Rattle.apex_ports.proofs.PackedItems.{one_read, all_read}
use Rattle.apex_ports.proofs.ports.saved.restore_partitions.Goals as goal

pub loop-partition-preserved : goal.loop-partition-preserved
loop-partition-preserved g c =
    let i = c.loop-partition.partition-index in
    let within : i < length c.loop-partition.partitions = omega arith in
    let item = slice_index_or c.loop-partition.partitions i c.partition-item.result in
    one_read packed_partition HasAsManyPorts IsSameTable c.args.partitions.now c.args.reader.now i c.loop-partition.partitions c.loop-partition.reader item c.restore.new.self c.restore.new.reader
    c.loop-partition.invariant (slice_get-get_or c.loop-partition.partitions i c.partition-item.result within) c.restore.ensures

pub returns : goal.returns
returns g c = all_read packed_partition HasAsManyPorts IsSameTable c.args.partitions.now c.args.reader.now c.loop-partition.partition-index c.loop-partition.partitions c.loop-partition.reader (omega arith) c.loop-partition.invariant
