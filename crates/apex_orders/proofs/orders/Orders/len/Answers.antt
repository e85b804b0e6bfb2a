use Rattle.std.proofs.Common.{List, ℕ, length, ap, arith}
use Rattle.apex_orders.proofs.GrowthLemmas.{orders_count}
use Rattle.apex_orders.proofs.orders.Orders.len.Goals as goal

pub returns : goal.returns
returns c =
    let count = orders_count c.self.inside.last_calls.items in
    let same = ap (λ (orders : List (List ℕ)). length orders) c.self.view_is in
    omega (arith, count, same, c.len.ensures)
