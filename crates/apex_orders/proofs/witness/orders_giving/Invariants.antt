use Rattle.apex_orders.proofs.Common.{◌≡◌, ℕ, List, Option, Result, length, slice_get, Some, answer_by}
use Rattle.apex_orders.specs.declared.orders_fault.OrdersFault.{OrdersFault}
use Rattle.apex_orders.proofs.witness.orders_giving.Given as goal

abbrev pub invariant-loop-q : goal.invariant-loop-q
invariant-loop-q g l = record {
  count : length l.answers.items ≡ l.q;
  each : (k : ℕ) (order : Option (List ℕ)) (answer : Result (Option (List ℕ)) OrdersFault) → slice_get l.found.answers.items k ≡ Some order → slice_get l.answers.items k ≡ Some answer
      → answer_by l.found.given_up order ≡ answer;
}
