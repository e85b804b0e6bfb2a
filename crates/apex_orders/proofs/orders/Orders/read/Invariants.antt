use Rattle.apex_orders.proofs.Common.{◌≡◌, ◌≤◌, ◌++◌, reverse, length, order_at}
use Rattle.apex_orders.proofs.orders.Orders.read.Given as goal

abbrev pub invariant-loop-at : goal.invariant-loop-at
invariant-loop-at l = record {
  within : l.at ≤ length l.self-inside.last_calls.items;
  rest : order_at l.self l.fn.index ≡ order_at l.self l.at ++ reverse l.order;
}

abbrev pub decreases-loop-at : goal.decreases-loop-at
decreases-loop-at l = l.at
