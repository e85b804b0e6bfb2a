use Rattle.apex_orders.proofs.Common.{◌≤◌, ◌++◌, ◌∷◌, [], List, ℕ, length, ap, sym, ◌∙◌, subst, arith, LastCall, order_at}
use Rattle.apex_orders.specs.Growth.{orders_of, ContinueEarlier}
use Rattle.apex_orders.proofs.GrowthLemmas.{continue_push, orders_count, orders_push}
use Rattle.apex_orders.proofs.orders.Orders.push.Goals as goal

abbrev pushed : ℕ → ℕ → LastCall
pushed before p = record { before = before; partition = p }

pub invariant_of-self-2 : goal.invariant_of-self-2
invariant_of-self-2 c =
    let calls = c.self.inside.last_calls.items in
    let count = orders_count calls in
    let same = ap (λ (orders : List (List ℕ)). length orders) c.self.view_is in
    let earlier : c.args.before ≤ length calls = omega (arith, count, same, c.requires.within) in
    subst ContinueEarlier (sym c.in_ok-push.ensures.items) (continue_push calls (pushed c.args.before c.args.p) c.self.invariant earlier)

pub returns : goal.returns
returns c =
    let calls = c.self.inside.last_calls.items in
    ap orders_of c.in_ok-push.ensures.items
    ∙ (orders_push calls (pushed c.args.before c.args.p)
    ∙ ap (λ (orders : List (List ℕ)). orders ++ (order_at orders c.args.before ++ c.args.p ∷ []) ∷ []) c.self.view_is)
