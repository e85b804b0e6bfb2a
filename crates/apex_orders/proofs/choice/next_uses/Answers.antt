use Rattle.apex_orders.proofs.Common.{◌≡◌, ⊎_elim, ℕ, List, [], ◌∷◌, length, Some, ap, subst, arith, length-append, slice_get, IsNextUse}
use Rattle.apex_orders.specs.declared.choice.NextUse.{NextUse}
use Rattle.apex_orders.proofs.Lists.{before_or_last}
use Rattle.apex_orders.proofs.choice.next_uses.Goals as goal

pub loop-p-preserved : goal.loop-p-preserved
loop-p-preserved c =
    let was = c.loop-p.invariant in
    let items = c.loop-p.nexts.items in
    let next = c.next_use-next.result in
    let pushed = c.in_ok-push.ensures.items in
    let longer = ap (λ (all : List NextUse). length all) pushed in
    let count = was.count in
    record {
      count = omega (arith, count, longer, length-append items (next ∷ []));
      each = λ p it at.
          ⊎_elim
          (λ (before : slice_get items p ≡ Some it). was.each p it before)
          (λ (last : (p ≡ length items) × (next ≡ it)).
          let here : c.loop-p.p ≡ p = omega (arith, count, last.0) in
          subst (λ (x : ℕ × NextUse). IsNextUse c.args.ports.now.config c.args.scripts.now c.args.ports.now.history x.0 x.1) (λ i. (here i, last.1 i)) c.next_use-next.ensures)
          (before_or_last items next p it (subst (λ (all : List NextUse). slice_get all p ≡ Some it) pushed at));
    }
