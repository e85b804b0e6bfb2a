use Rattle.std.proofs.Common.{◌≡◌, take}
use Rattle.apex_module.proofs.partition.copies_of_ports.Given as goal

abbrev pub invariant-loop-port : goal.invariant-loop-port
invariant-loop-port l = l.made.items ≡ take l.port-index l.ports
