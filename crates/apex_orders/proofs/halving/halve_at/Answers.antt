use Rattle.std.specs.Prelude.{get_or, set}
use Rattle.apex_orders.proofs.Common.{◌≡◌, ◌≢◌, suc, ⊎_elim, ◌+◌, ◌++◌, ◌∷◌, ◌<◌, [], Bool, List, ℕ, Some, length, length-set, take, drop, refl, sym, ap, ◌∙◌, subst, arith, slice_get, slice_get-get_or, slice_get-set_cases, Configuration, Scripts, Worker, Has, HaveInOrder, AreUnderTrial, IsUnderTrial}
use Rattle.apex_orders.proofs.InOrder.{in_order_halved, in_order_pop}
use Rattle.apex_orders.proofs.Lists.{all_replaced, at_seam, of_inserted, stays_before}
use Rattle.apex_orders.specs.declared.search.Search.{Search}
use Rattle.apex_orders.proofs.halving.halve_at.Goals as goal

-- a worker at the index was halved, and the other half stands behind it
module _ (clock : Bool) (config : Configuration) (scripts : Scripts) (current : Search) (all : List Worker) (k : ℕ) (new other : Worker) where
  abbrev after : List Worker
  after = take (k + 1) (set all k new) ++ other ∷ drop (k + 1) (set all k new)

  pub halved_trial : ((j : ℕ) (worker : Worker) → slice_get all j ≡ Some worker → IsUnderTrial clock config scripts current worker)
      → IsUnderTrial clock config scripts current new → IsUnderTrial clock config scripts current other → AreUnderTrial clock config scripts current after
  halved_trial each first second j worker at =
      ⊎_elim
      (λ (has : Has (set all k new) worker).
      ⊎_elim
      (λ (own : (has.0 ≡ k) × (worker ≡ new)). subst (IsUnderTrial clock config scripts current) (sym own.1) first)
      (λ (another : (has.0 ≢ k) × (slice_get all has.0 ≡ Some worker)). each has.0 worker another.1)
      (slice_get-set_cases all k new has.0 worker has.1))
      (λ (is : other ≡ worker). subst (IsUnderTrial clock config scripts current) is second)
      (of_inserted (set all k new) (k + 1) other j worker at)

-- the workers before the last one, the last one, and the slice of those before it
module _ (workers xs all : List Worker) (other : Worker) (whole : workers ≡ xs ++ other ∷ []) (same : all ≡ xs) where
  pub among : (j : ℕ) (worker : Worker) → slice_get all j ≡ Some worker → slice_get workers j ≡ Some worker
  among j worker at = ap (λ (items : List Worker). slice_get items j) whole ∙ stays_before xs (other ∷ []) j worker (ap (λ (items : List Worker). slice_get items j) (sym same) ∙ at)

  pub last_one : slice_get workers (length xs) ≡ Some other
  last_one = ap (λ (items : List Worker). slice_get items (length xs)) whole ∙ at_seam xs other []

pub halve-requires-clause-given : goal.halve-requires-clause-given
halve-requires-clause-given c =
    let xs = c.pop.new.self.items in
    let all = c.as_mut_slice-all.result.now in
    let k = c.args.k in
    let same = c.as_mut_slice-all.ensures.value in
    let len = c.len.ensures in
    let count = ap (λ (items : List Worker). length items) same in
    let worker = get_or all k c.index-all-k.result in
    c.requires.given k worker
    (among c.args.workers.now.items xs all c.in-Some.other c.in-Some.ensures.items same k worker (slice_get-get_or all k c.index-all-k.result (omega (arith, c.if-k-len.false, len, count))))

pub halve-requires-clause-other : goal.halve-requires-clause-other
halve-requires-clause-other c =
    let xs = c.pop.new.self.items in
    (c.requires.given (length xs) c.in-Some.other (last_one c.args.workers.now.items xs xs c.in-Some.other c.in-Some.ensures.items refl)).valid.trial

pub returns-clause-given : goal.returns-clause-given
returns-clause-given c =
    let clock = c.args.clock in
    let config = c.args.config.now in
    let scripts = c.args.scripts.now in
    let current = c.args.current.now in
    let xs = c.pop.new.self.items in
    let all = c.as_mut_slice-all.result.now in
    let k = c.args.k in
    let same = c.as_mut_slice-all.ensures.value in
    let len = c.len.ensures in
    let count = ap (λ (items : List Worker). length items) same in
    let written = set all k c.halve.new.worker in
    let placed : c.insert.new.self.items ≡ take (k + 1) written ++ c.halve.new.other ∷ drop (k + 1) written =
    c.in_ok-insert.ensures.items
    ∙ ap (λ (items : List Worker). take (k + 1) items ++ c.halve.new.other ∷ drop (k + 1) items) (all_replaced xs written c.pop.new.self.len (omega (arith, count, length-set all k c.halve.new.worker)) (omega arith)) in
    let halved = c.in_ok-halve.ensures in
    subst (AreUnderTrial clock config scripts current) (sym placed)
    (halved_trial clock config scripts current all k c.halve.new.worker c.halve.new.other
    (λ j worker at. c.requires.given j worker (among c.args.workers.now.items xs all c.in-Some.other c.in-Some.ensures.items same j worker at)) halved.first halved.second)

pub returns-clause-points : goal.returns-clause-points
returns-clause-points c from to are =
    let xs = c.pop.new.self.items in
    let all = c.as_mut_slice-all.result.now in
    let k = c.args.k in
    let same = c.as_mut_slice-all.ensures.value in
    let len = c.len.ensures in
    let count = ap (λ (items : List Worker). length items) same in
    let within : k < length all = omega (arith, c.if-k-len.false, len, count) in
    let old = get_or all k c.index-all-k.result in
    let here = slice_get-get_or all k c.index-all-k.result within in
    let written = set all k c.halve.new.worker in
    let placed : c.insert.new.self.items ≡ take (k + 1) written ++ c.halve.new.other ∷ drop (k + 1) written =
    c.in_ok-insert.ensures.items
    ∙ ap (λ (items : List Worker). take (k + 1) items ++ c.halve.new.other ∷ drop (k + 1) items) (all_replaced xs written c.pop.new.self.len (omega (arith, count, length-set all k c.halve.new.worker)) (omega arith)) in
    let halved = c.in_ok-halve.ensures in
    let next : suc k ≡ k + 1 = omega arith in
    subst (HaveInOrder from to) (sym placed)
    (subst (λ (n : ℕ). HaveInOrder from to (take n written ++ c.halve.new.other ∷ drop n written)) next
    (in_order_halved from to all k old c.halve.new.worker c.halve.new.other here halved.kept halved.rest
    (subst (HaveInOrder from to) (sym same)
    (in_order_pop from to xs c.in-Some.other (c.is_idle.ensures (c.if-not-is_idle.false)) (subst (HaveInOrder from to) c.in-Some.ensures.items are)))))
