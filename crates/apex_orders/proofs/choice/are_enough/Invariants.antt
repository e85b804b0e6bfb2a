use Rattle.apex_orders.proofs.Common.{◌≡◌, ◌<◌, ℕ, true, IsSafeToTry, is_tried, HasNext}
use Rattle.apex_orders.proofs.choice.are_enough.Given as goal

abbrev pub invariant-loop-p : goal.invariant-loop-p
invariant-loop-p l = record {
  some : l.some ≡ true → (p : ℕ) × (is_tried l.tried p ≡ true) × HasNext l.scripts l.ports.history p;
  safe : (p : ℕ) → p < l.p → is_tried l.tried p ≡ true → IsSafeToTry l.ports.config l.scripts l.ports.history (is_tried l.tried) p;
}
