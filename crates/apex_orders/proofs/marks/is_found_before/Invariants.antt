use Rattle.apex_orders.proofs.Common.{◌≡◌, ◌<◌, ℕ, slice_get, Some, Worker, HasPoint, IsTrialOf}
use Rattle.apex_orders.proofs.marks.is_found_before.Given as goal

abbrev pub invariant-loop-i : goal.invariant-loop-i
invariant-loop-i l = record {
  trial : IsTrialOf l.config l.trial;
  none : (i : ℕ) (worker : Worker) → i < l.i → slice_get l.workers i ≡ Some worker → ¬ HasPoint worker.found.items l.one.saved;
}
