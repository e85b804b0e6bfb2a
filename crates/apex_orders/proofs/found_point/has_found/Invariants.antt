use Rattle.apex_orders.proofs.Common.{◌≡◌, ◌+◌, ℕ, ◌≤◌, Some, slice_get, FoundPoint, IsSamePoint}
use Rattle.apex_orders.proofs.found_point.has_found.Given as goal

abbrev pub invariant-loop-count : goal.invariant-loop-count
invariant-loop-count l = record {
  ports : l.trial.ports ≡ l.initial.trial.ports;
  other : l.trial.other.config ≡ l.initial.trial.other.config;
  here : (k : ℕ) → l.count ≡ k + 1 → slice_get l.hashes k ≡ Some l.hash;
  others : (n : ℕ) (one : FoundPoint) → l.count ≤ n → slice_get l.found.items n ≡ Some one
      → IsSamePoint l.initial.trial.ports.config l.initial.trial.ports.history one.saved.history → ⊥;
}

abbrev pub decreases-loop-count : goal.decreases-loop-count
decreases-loop-count l = l.count
