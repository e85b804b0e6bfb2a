use Rattle.apex_ports.proofs.Common.{◌≡◌, ◌++◌, take}
use Rattle.std.specs.List.{flat_map}
use Rattle.apex_ports.specs.Packed.{packed_number}
use Rattle.apex_ports.proofs.ports.saved.save_calls.Given as goal

abbrev pub invariant-loop-count : goal.invariant-loop-count
invariant-loop-count g l = l.bytes.items ≡ l.initial.bytes.items ++ flat_map packed_number (take l.count-index l.calls)
