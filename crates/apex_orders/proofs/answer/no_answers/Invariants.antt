use Rattle.apex_orders.proofs.Common.{◌≡◌, ℕ, List, length, slice_get, Some}
use Rattle.apex_orders.proofs.answer.no_answers.Given as goal

abbrev pub invariant-loop : goal.invariant-loop
invariant-loop l = record {
  count : length l.answers.items ≡ l.counter;
  none : (q : ℕ) (order : List ℕ) → slice_get l.answers.items q ≡ Some (Some order) → ⊥;
}
