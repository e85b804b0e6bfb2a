use Rattle.apex_orders.proofs.Common.{◌≡◌, ◌↔◌, ℕ, Bool, true, length, slice_get, Some, IsNextDue}
use Rattle.apex_orders.proofs.choice.due.Given as goal

abbrev pub invariant-loop-p : goal.invariant-loop-p
invariant-loop-p l = record {
  count : length l.tried.items ≡ l.p;
  each : (p : ℕ) (b : Bool) → slice_get l.tried.items p ≡ Some b → (b ≡ true) ↔ IsNextDue true l.scripts l.ports.history p;
}
