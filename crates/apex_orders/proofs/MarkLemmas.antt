-- Marks, and what the search knows.
use Rattle.apex_orders.proofs.Common.{◌≡◌, ◌⊎◌, ⊎_elim, ℕ, ◌<◌, ◌≤◌, Bool, List, map, Some, sym, ap, ◌∙◌, subst, arith, slice_get, Configuration, FoundPoint, Worker, Scripts, Has, IsSamePoint, calls_made, history_of, AreLevels, IsWorker, Knows, KnowsFrom, order_found, orders_known}
use Rattle.apex_orders.specs.Marks.{AreMarks, FitMarks, IsFoundBefore, IsFoundOrderBefore}
use Rattle.apex_orders.proofs.Following.{same_along}
use Rattle.apex_orders.proofs.Having.{has_behind, has_mapped}
use Rattle.apex_orders.specs.declared.search.Search.{Search}

module _ (clock : Bool) (config : Configuration) (scripts : Scripts) (workers : List Worker) (k : ℕ) (worker : Worker) (marks : List Bool) (start : List (List ℕ)) (current : Search)
    (valid : (i : ℕ) (w : Worker) → i < k → slice_get workers i ≡ Some w → IsWorker clock config scripts w) (own : IsWorker clock config scripts worker) (here : slice_get workers k ≡ Some worker) (are : AreMarks workers k marks)
    (levels : AreLevels config scripts current.orders current.points.first current.points.next current.points.calls) (few : (order : List ℕ) → Has start order → calls_made config (history_of config scripts order) ≤ current.points.calls)
    (known : (i : ℕ) (w : Worker) (order : List ℕ) → i < k → slice_get workers i ≡ Some w → Has (orders_known w) order → Knows config scripts current.orders (history_of config scripts order))
    (from : (order : List ℕ) → Has current.orders order → Has start order ⊎ IsFoundOrderBefore workers k order) where
  configured : (j : ℕ) (one : FoundPoint) → slice_get worker.found.items j ≡ Some one → one.saved.config ≡ config
  configured j one at = (own.found one (j, at)).after.configured

  known_too : (j : ℕ) (one : FoundPoint) → slice_get worker.found.items j ≡ Some one → IsFoundBefore workers k one → Knows config scripts current.orders one.saved.history
  known_too j one at before =
      let w = before.worker in
      let o = before.has.one in
      let found = (valid before.index w before.before before.here).found o before.has.here in
      let there = known before.index w (order_found w o) before.before before.here (has_behind w.base.value (map (order_found w) w.found.items) (order_found w o) (has_mapped (order_found w) w.found.items o before.has.here)) in
      let same : IsSamePoint config one.saved.history o.saved.history = subst (λ (own : Configuration). IsSamePoint own one.saved.history o.saved.history) (configured j one at) before.has.same in
      record {
        order = there.order;
        here = there.here;
        same = same_along config one.saved.history (history_of config scripts (order_found w o)) (history_of config scripts there.order) (subst (IsSamePoint config one.saved.history) found.after.history same) there.same;
      }

  unknown : (j : ℕ) (one : FoundPoint) → slice_get worker.found.items j ≡ Some one → ¬ IsFoundBefore workers k one → ¬ KnowsFrom config scripts current.orders current.points.next one.saved.history
  unknown j one at none there =
      ⊎_elim
      (λ (old : Has start there.order). let more = levels.after there.index there.order there.past there.here in let less = few there.order old in absurd (omega (arith, more, less)))
      (λ (new : IsFoundOrderBefore workers k there.order).
      let w = new.worker in
      let o = new.found.one in
      let found = (valid new.index w new.before new.here).found o new.found.here in
      let leads : history_of config scripts there.order ≡ o.saved.history = ap (history_of config scripts) new.found.is ∙ sym found.after.history in
      none (record {
        index = new.index;
        before = new.before;
        worker = w;
        here = new.here;
        has = record {
          one = o;
          here = new.found.here;
          same = subst (λ (own : Configuration). IsSamePoint own one.saved.history o.saved.history) (sym (configured j one at)) (subst (IsSamePoint config one.saved.history) leads there.same);
        };
      }))
      (from there.order (there.index, there.here))

  pub fit : FitMarks config scripts current worker marks
  fit = record {
    count = are.count worker here;
    known = λ j one at marked. known_too j one at (are.found worker j one here at marked);
    new = λ j one at marked. unknown j one at (are.new worker j one here at marked);
  }
