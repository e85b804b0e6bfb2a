use Rattle.apex_orders.proofs.Common.{◌≡◌, ◌<◌, ℕ, Some, None, slice_get}
use Rattle.apex_orders.proofs.answer.are_all_answered.Given as goal

abbrev pub invariant-loop-q : goal.invariant-loop-q
invariant-loop-q l = (q : ℕ) → q < l.q → slice_get l.answers.items q ≡ Some None → ⊥
