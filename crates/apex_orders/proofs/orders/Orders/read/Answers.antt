use Rattle.apex_orders.proofs.Common.{◌≡◌, ◌<◌, ◌≤◌, ◌-◌, ◌++◌, ◌∷◌, [], List, ℕ, length, get_or, reverse, Some, ap, sym, ◌∙◌, subst, arith, append-nil, append_assoc, slice_get, reverse-append, at_index, LastCall, order_at}
use Rattle.apex_orders.proofs.GrowthLemmas.{first_order, order_after, orders_count}
use Rattle.apex_orders.proofs.orders.Orders.read.Goals as goal

pub loop-at-init : goal.loop-at-init
loop-at-init c =
    let count = orders_count c.self.inside.last_calls.items in
    let same = ap (λ (orders : List (List ℕ)). length orders) c.self.view_is in
    let here = order_at c.args.self.now c.args.index in
    record {
      within = omega (arith, count, same, c.requires);
      rest = sym (append-nil here) ∙ ap (λ (order : List ℕ). here ++ reverse order) (sym c.clear.ensures);
    }

-- the call that was read
last_at : (calls : List LastCall) (at : ℕ) (last : LastCall) → at ≤ length calls → 0 < at → last ≡ get_or calls (at - 1) last → slice_get calls (at - 1) ≡ Some last
last_at calls at last within some is = at_index calls (at - 1) last (omega (arith, within, some)) is

pub loop-at-smaller : goal.loop-at-smaller
loop-at-smaller c =
    let earlier = c.self.invariant (c.loop-at.at - 1) c.index-last.result.now (last_at c.self.inside.last_calls.items c.loop-at.at c.index-last.result.now c.loop-at.invariant.within c.loop-at-test.true c.index-last.ensures) in
    omega (arith, earlier, c.loop-at-test.true)

pub loop-at-preserved : goal.loop-at-preserved
loop-at-preserved c =
    let last = c.index-last.result.now in
    let calls = c.self.inside.last_calls.items in
    let at = c.loop-at.at in
    let earlier = c.self.invariant (at - 1) last (last_at c.self.inside.last_calls.items c.loop-at.at c.index-last.result.now c.loop-at.invariant.within c.loop-at-test.true c.index-last.ensures) in
    let inside = c.loop-at.invariant.within in
    let before = order_at c.args.self.now last.before in
    let rest = reverse c.loop-at.order in
    let after : order_at c.args.self.now at ≡ before ++ last.partition ∷ [] =
    subst (λ (orders : List (List ℕ)). order_at orders at ≡ order_at orders last.before ++ last.partition ∷ []) c.self.view_is
    (order_after calls at (at - 1) last c.self.invariant (omega (arith, c.loop-at-test.true)) (last_at c.self.inside.last_calls.items c.loop-at.at c.index-last.result.now c.loop-at.invariant.within c.loop-at-test.true c.index-last.ensures)) in
    record {
      within = omega (arith, earlier, inside, c.loop-at-test.true);
      rest =
          c.loop-at.invariant.rest
          ∙ (ap (λ (order : List ℕ). order ++ rest) after
          ∙ (append_assoc before (last.partition ∷ []) rest
          ∙ ap (λ (order : List ℕ). before ++ order) (sym (ap (λ (order : List ℕ). reverse order) c.in_ok-push.ensures ∙ reverse-append c.loop-at.order (last.partition ∷ [])))));
    }

pub returns : goal.returns
returns c =
    let calls = c.self.inside.last_calls.items in
    let order = c.loop-at.order in
    let none : c.loop-at.at ≡ 0 = omega (arith, c.loop-at-test.false) in
    let first : order_at c.args.self.now c.loop-at.at ≡ [] =
    ap (λ (n : ℕ). order_at c.args.self.now n) none ∙ subst (λ (orders : List (List ℕ)). order_at orders 0 ≡ []) c.self.view_is (first_order calls) in
    c.reverse.ensures ∙ sym (c.loop-at.invariant.rest ∙ ap (λ (before : List ℕ). before ++ reverse order) first)
