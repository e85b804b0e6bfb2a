use Rattle.apex_orders.proofs.Common.{◌≡◌, ⊎_elim, arith, ◌++◌, ◌∷◌, [], List, length, length-append, sym, ap, ◌∙◌, subst, slice_get, Some, ℕ, Worker, IsTrialOf, CanAllTry}
use Rattle.apex_orders.specs.Workers.{CanAllMark}
use Rattle.apex_orders.specs.declared.marks.Marks.{Marks}
use Rattle.apex_orders.proofs.Lists.{before_or_last}
use Rattle.apex_orders.proofs.workers.Workers.make.Goals as goal

-- what holds of each item, and of one more
each_and_last : {X : Type 0} (P : X → Type 0) (xs : List X) (x : X) → ((k : ℕ) (y : X) → slice_get xs k ≡ Some y → P y) → P x → (k : ℕ) (y : X) → slice_get (xs ++ x ∷ []) k ≡ Some y → P y
each_and_last {X} P xs x each last k y at =
    ⊎_elim
    (λ (before : slice_get xs k ≡ Some y). each k y before)
    (λ (is : (k ≡ length xs) × (x ≡ y)). subst P is.1 last)
    (before_or_last xs x k y at)

pub loop-2-preserved : goal.loop-2-preserved
loop-2-preserved c =
    let was = c.loop-2.invariant in
    let config = c.args.config.now in
    let all = c.loop-2.self.all.items in
    let worker = c.in_ok-new-2.field-0 in
    let marks = c.loop-2.self.marks.items in
    let one = c.in_ok-new.field-0 in
    let pushed = c.in_ok-push-3.ensures.items in
    let marked = c.in_ok-push-2.ensures.items in
    let more = ap (λ (xs : List Worker). length xs) pushed ∙ length-append all (worker ∷ []) in
    let others = ap (λ (xs : List Marks). length xs) marked ∙ length-append marks (one ∷ []) in
    let same = was.workers.count in
    let count = was.count in
    record {
      workers = record {
        each = subst (CanAllTry config) (sym pushed) (each_and_last (λ (w : Worker). IsTrialOf config w.trial) all worker was.workers.each c.in_ok-new-2.ensures);
        count = omega (arith, more, others, same);
        marks = subst (CanAllMark config) (sym marked) (each_and_last (λ (m : Marks). IsTrialOf config m.trial) marks one was.workers.marks c.in_ok-new.ensures);
      };
      count = omega (arith, more, count);
    }
