use Rattle.apex_ports.proofs.Common.{◌≡◌, ◌++◌, take}
use Rattle.std.specs.List.{flat_map}
use Rattle.apex_ports.specs.Packed.{packed_port}
use Rattle.apex_ports.proofs.saved_partition.save_ports.Given as goal

abbrev pub invariant-loop-port : goal.invariant-loop-port
invariant-loop-port g l = l.bytes.items ≡ l.initial.bytes.items ++ flat_map packed_port (take l.port-index l.ports)
