use Rattle.apex_ports.proofs.Common.{◌≡◌}
use Rattle.apex_ports.specs.Packed.{packed_port}
use Rattle.apex_ports.proofs.PackedItems.{AreReading, IsAny}
use Rattle.apex_ports.proofs.saved_partition.restore_ports.Given as goal

abbrev pub invariant-loop-port : goal.invariant-loop-port
invariant-loop-port l = AreReading packed_port IsAny (λ saved now. now ≡ saved) l.initial.ports l.initial.reader l.port-index l.ports l.reader
