use Rattle.apex_orders.proofs.Common.{◌≡◌, ℕ, length, slice_get, Some, true, false, FoundPoint, IsTrialOf}
use Rattle.apex_orders.specs.Marks.{IsFoundBefore}
use Rattle.apex_orders.proofs.marks.Marks.mark_all.Given as goal

abbrev pub invariant-loop-j : goal.invariant-loop-j
invariant-loop-j l = record {
  trial : IsTrialOf l.config l.self.trial;
  count : length l.self.known.items ≡ l.j;
  found : (j : ℕ) (one : FoundPoint) → slice_get l.worker.found.items j ≡ Some one → slice_get l.self.known.items j ≡ Some true → IsFoundBefore l.workers l.k one;
  new : (j : ℕ) (one : FoundPoint) → slice_get l.worker.found.items j ≡ Some one → slice_get l.self.known.items j ≡ Some false → ¬ IsFoundBefore l.workers l.k one;
}
