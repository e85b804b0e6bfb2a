use Rattle.std.proofs.Common.{◌≡◌, take}
use Rattle.apex_orders.proofs.order.PackedOrder.unpacked.Given as goal

abbrev pub invariant-loop-p : goal.invariant-loop-p
invariant-loop-p l = l.partitions.items ≡ take l.p-index l.self
