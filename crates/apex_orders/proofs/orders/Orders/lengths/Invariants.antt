use Rattle.apex_orders.proofs.Common.{◌≡◌, ◌≤◌, ℕ, length, map, take, slice_get, Some}
use Rattle.apex_orders.specs.Growth.{orders_of}
use Rattle.apex_orders.proofs.orders.Orders.lengths.Given as goal

abbrev pub invariant-loop-k : goal.invariant-loop-k
invariant-loop-k l = record {
  are : l.lengths.items ≡ map (λ order. length order) (orders_of (take l.k l.self-inside.last_calls.items));
  few : (i n : ℕ) → slice_get l.lengths.items i ≡ Some n → n ≤ i;
}
