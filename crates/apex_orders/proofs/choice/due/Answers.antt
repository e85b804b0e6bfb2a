use Rattle.apex_orders.proofs.Common.{◌≡◌, ◌↔◌, ⊎_elim, ◌∷◌, [], ℕ, Bool, List, true, length, length-append, slice_get, Some, ap, subst, arith, IsNextDue}
use Rattle.apex_orders.proofs.ChoiceLemmas.{all_due, due_enough}
use Rattle.apex_orders.proofs.Lists.{before_or_last}
use Rattle.apex_orders.proofs.choice.due.Goals as goal

pub loop-p-preserved : goal.loop-p-preserved
loop-p-preserved c =
    let was = c.loop-p.invariant in
    let items = c.loop-p.tried.items in
    let next = c.is_due-is_next.result in
    let pushed = c.in_ok-push.ensures.items in
    let longer = ap (λ (all : List Bool). length all) pushed in
    let count = was.count in
    record {
      count = omega (arith, count, longer, length-append items (next ∷ []));
      each = λ p b at.
          ⊎_elim
          (λ (before : slice_get items p ≡ Some b). was.each p b before)
          (λ (last : (p ≡ length items) × (next ≡ b)).
          let here : c.loop-p.p ≡ p = omega (arith, count, last.0) in
          subst (λ (x : ℕ × Bool). (x.1 ≡ true) ↔ IsNextDue true c.args.scripts.now c.args.ports.now.history x.0) (λ i. (here i, last.1 i)) c.is_due-is_next.ensures)
          (before_or_last items next p b (subst (λ (all : List Bool). slice_get all p ≡ Some b) pushed at));
    }

pub returns-clause-enough : goal.returns-clause-enough
returns-clause-enough c =
    let was = c.loop-p.invariant in
    let count = was.count in
    due_enough c.args.ports.now.config c.args.scripts.now c.args.ports.now.history c.loop-p.tried.items (omega (arith, count, c.loop-p-test.false)) was.each

pub returns-clause-due : goal.returns-clause-due
returns-clause-due c =
    let was = c.loop-p.invariant in
    let count = was.count in
    all_due c.args.ports.now.config c.args.scripts.now c.args.ports.now.history c.loop-p.tried.items (omega (arith, count, c.loop-p-test.false)) was.each
