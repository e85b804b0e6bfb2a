use Rattle.apex_ports.proofs.Common.{◌≡◌, ◌++◌, take}
use Rattle.std.specs.List.{flat_map}
use Rattle.apex_ports.specs.Packed.{packed_message}
use Rattle.apex_ports.proofs.saved_channel.save_waiting.Given as goal

abbrev pub invariant-loop-index : goal.invariant-loop-index
invariant-loop-index g l = l.bytes.items ≡ l.initial.bytes.items ++ flat_map packed_message (take l.index l.waiting.items)
