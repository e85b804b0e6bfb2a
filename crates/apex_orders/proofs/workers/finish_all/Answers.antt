use Rattle.apex_orders.proofs.Common.{◌≡◌, ◌≢◌, ⊎_elim, inl, inr, List, Has, history_of, orders_known, ℕ, ◌+◌, ◌<◌, length, length-set, refl, sym, ap, ◌∙◌, subst, arith, cases_eq, slice_get, Some, slice_get-get_or, slice_get-set_cases, slice_get_within, Bool, Configuration, Scripts, Worker, HasMade, IsTrialOf, IsUnderTrial, reach}
use Rattle.std.specs.Prelude.{get_or}
use Rattle.apex_orders.proofs.Lists.{set_elsewhere}
use Rattle.apex_orders.proofs.GrowthLemmas.{still_within}
use Rattle.apex_orders.proofs.InOrder.{IsPointOf, point_at}
use Rattle.apex_orders.proofs.SearchLemmas.{has_tried_kept, includes_along, keeps_along, knows_kept}
use Rattle.apex_orders.proofs.WorkerLemmas.{continued_with_more, keeps_same, reach_within}
use Rattle.apex_orders.proofs.MarkLemmas.{fit}
use Rattle.apex_orders.specs.Marks.{AreMarks, IsFoundOrder, IsFoundOrderBefore}
use Rattle.apex_orders.specs.declared.search.Search.{Search}
use Rattle.apex_orders.proofs.workers.finish_all.Goals as goal

-- a worker's points are known to the search that it adds to
known_too : (clock : Bool) (config : Configuration) (scripts : Scripts) (current : Search) (worker : Worker) (i : ℕ) → IsUnderTrial clock config scripts current worker → IsPointOf worker i
    → i < length current.orders
known_too clock config scripts current worker i trial is =
    let below = is.within in
    let all = trial.valid.given.within in
    let own = reach_within worker trial.left in
    still_within worker.base.value current.orders i (keeps_same worker.base.value current.orders (sym trial.base)) (omega (arith, below, all, own))

-- the next worker is as it was in the beginning
next_here : (c : goal.After-index-workers-k) → slice_get c.args.workers.now c.loop-k.k ≡ Some (get_or c.loop-k.workers c.loop-k.k c.index-workers-k.result)
next_here c =
    let k = c.loop-k.k in
    let within : k < length c.loop-k.workers = omega (arith, c.loop-k-test.true) in
    sym (c.loop-k.invariant.rest k (omega arith)) ∙ slice_get-get_or c.loop-k.workers k c.index-workers-k.result within

next_trial : (c : goal.After-index-workers-k) → IsUnderTrial c.args.clock c.args.config.now c.args.scripts.now c.args.current.now (get_or c.loop-k.workers c.loop-k.k c.index-workers-k.result)
next_trial c = c.requires.given c.loop-k.k _ (next_here c)

pub finish-requires-clause-worker : goal.finish-requires-clause-worker
finish-requires-clause-worker c = (next_trial c).valid

pub finish-requires-clause-tried : goal.finish-requires-clause-tried
finish-requires-clause-tried c =
    let worker = get_or c.loop-k.workers c.loop-k.k c.index-workers-k.result in
    continued_with_more c.args.config.now c.args.scripts.now c.args.clock c.args.current.now.replies c.loop-k.current.replies worker c.loop-k.invariant.later.replies (next_trial c).tried

pub finish-requires-clause-left : goal.finish-requires-clause-left
finish-requires-clause-left c = (next_trial c).left

pub finish-requires-clause-all : goal.finish-requires-clause-all
finish-requires-clause-all c = c.requires.all c.loop-k.k _ (next_here c)

pub finish-requires-clause-base : goal.finish-requires-clause-base
finish-requires-clause-base c =
    let worker = get_or c.loop-k.workers c.loop-k.k c.index-workers-k.result in
    let start = c.args.current.now.orders in
    keeps_along worker.base.value start c.loop-k.current.orders (keeps_same worker.base.value start (sym (next_trial c).base)) c.loop-k.invariant.later.orders

-- the marks of the next worker
pub finish-requires-clause-marks : goal.finish-requires-clause-marks
finish-requires-clause-marks c =
    let config = c.args.config.now in
    let scripts = c.args.scripts.now in
    let k = c.loop-k.k in
    let start = c.args.current.now in
    let current = c.loop-k.current in
    let was = c.loop-k.invariant in
    let worker = get_or c.loop-k.workers k c.index-workers-k.result in
    let workers = c.args.workers.now in
    let marks = get_or c.args.marks.now k c.index-marks-k.result in
    let within : k < length c.loop-k.workers = omega (arith, c.loop-k-test.true) in
    let many = was.many in
    let each = c.requires.each in
    let here : slice_get workers k ≡ Some worker = sym (was.rest k (omega arith)) ∙ slice_get-get_or c.loop-k.workers k c.index-workers-k.result within in
    let are = c.requires.marked k marks (slice_get-get_or c.args.marks.now k c.index-marks-k.result (omega (arith, within, many, each))) in
    fit c.args.clock config scripts workers k worker c.as_slice-known.result.now start.orders current
    (λ i w below at. (c.requires.given i w at).valid) (c.requires.given k worker here).valid here
    (subst (λ (items : List Bool). AreMarks workers k items) (sym c.as_slice-known.ensures.value) are) was.valid.levels
    (λ order has.
    let inside = slice_get_within start.orders has.0 order has.1 in
    let whole = c.requires.whole in
    let calls = was.level.calls in
    let less = c.requires.valid.levels.before has.0 order (omega (arith, inside, whole)) has.1 in
    omega (arith, less, calls))
    was.known was.from

pub finish-requires-clause-made : goal.finish-requires-clause-made
finish-requires-clause-made c =
    let worker = get_or c.loop-k.workers c.loop-k.k c.index-workers-k.result in
    subst (λ (n : ℕ). HasMade c.args.config.now c.args.scripts.now n worker) (sym c.loop-k.invariant.level.calls) (next_trial c).made

pub loop-k-preserved : goal.loop-k-preserved
loop-k-preserved c =
    let clock = c.args.clock in
    let config = c.args.config.now in
    let scripts = c.args.scripts.now in
    let start = c.args.current.now in
    let before = c.loop-k.current in
    let after = c.finish.new.self in
    let all = c.args.workers.now in
    let workers = c.loop-k.workers in
    let k = c.loop-k.k in
    let was = c.loop-k.invariant in
    let now = c.in_ok-finish.ensures in
    let worker = get_or workers k c.index-workers-k.result in
    let new = c.finish.new.worker in
    let within : k < length workers = omega (arith, c.loop-k-test.true) in
    let here : slice_get all k ≡ Some worker = sym (was.rest k (omega arith)) ∙ slice_get-get_or workers k c.index-workers-k.result within in
    let same : (j : ℕ) (other : Worker) → j ≡ k → slice_get all j ≡ Some other → worker ≡ other = λ j other own at.
    let both : Some worker ≡ Some other = sym here ∙ (ap (λ (n : ℕ). slice_get all n) (sym own) ∙ at) in
    cc in
    record {
      valid = now.valid;
      later = record {
        orders = keeps_along start.orders before.orders after.orders was.later.orders now.later.orders;
        replies = includes_along start.replies before.replies after.replies was.later.replies now.later.replies;
      };
      level = record { first = now.level.first ∙ was.level.first; next = now.level.next ∙ was.level.next; calls = now.level.calls ∙ was.level.calls };
      many = length-set workers k new ∙ was.many;
      rest = λ j past. set_elsewhere workers k new j (λ own. absurd (omega (arith, past, own))) ∙ was.rest j (omega (arith, past));
      tried = λ j i other below at is.
          ⊎_elim
          (λ (own : j ≡ k).
          let point = subst (λ (w : Worker). IsPointOf w i) (sym (same j other own at)) is in
          now.tried worker.first (worker.first + reach worker) (record { first = refl; last = refl }) i point.past point.within)
          (λ (earlier : j ≡ k → ⊥).
          let sooner : j < k = omega (arith, below, earlier) in
          let known = known_too clock config scripts start other i (c.requires.given j other at) is in
          has_tried_kept config scripts clock before.orders after.orders before.replies after.replies i now.later.orders now.later.replies
          (still_within start.orders before.orders i was.later.orders known)
          (was.tried j i other sooner at is))
          (cases_eq j k);
      trial = λ j other below at.
          ⊎_elim
          (λ (own : (j ≡ k) × (other ≡ new)). subst (λ (w : Worker). IsTrialOf config w.trial) (sym own.1) now.trial)
          (λ (another : (j ≢ k) × (slice_get workers j ≡ Some other)). let apart = another.0 in was.trial j other (omega (arith, below, apart)) another.1)
          (slice_get-set_cases workers k new j other at);
      known = λ j other order below at has.
          ⊎_elim
          (λ (own : j ≡ k). now.points order (subst (λ (w : Worker). Has (orders_known w) order) (sym (same j other own at)) has))
          (λ (earlier : j ≡ k → ⊥). knows_kept config scripts before.orders after.orders (history_of config scripts order) now.later.orders (was.known j other order (omega (arith, below, earlier)) at has))
          (cases_eq j k);
      from = λ order has.
          ⊎_elim
          (λ (old : Has before.orders order).
          ⊎_elim
          (λ (first : Has start.orders order). inl first)
          (λ (found : IsFoundOrderBefore all k order). inr (record { index = found.index; before = let less = found.before in omega (arith, less); worker = found.worker; here = found.here; found = found.found }))
          (was.from order old))
          (λ (new : IsFoundOrder worker order). inr (record { index = k; before = omega arith; worker = worker; here = here; found = new }))
          (now.new order has);
    }

pub returns-clause-tried : goal.returns-clause-tried
returns-clause-tried c from to are i past below =
    let at = point_at from to c.args.workers.now i are past below in
    let within = slice_get_within c.args.workers.now at.index at.worker at.here in
    let many = c.loop-k.invariant.many in
    c.loop-k.invariant.tried at.index i at.worker (omega (arith, within, many, c.loop-k-test.false)) at.here at.is

pub returns-clause-workers : goal.returns-clause-workers
returns-clause-workers c k worker at =
    let within = slice_get_within c.loop-k.workers k worker at in
    c.loop-k.invariant.trial k worker (omega (arith, within, c.loop-k-test.false)) at
