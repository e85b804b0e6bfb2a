use Rattle.apex_orders.proofs.Common.{ℕ, ◌<◌, ◌≤◌, length, script_of, times}
use Rattle.apex_orders.proofs.outcomes.names_all.Given as goal

abbrev pub invariant-loop-p : goal.invariant-loop-p
invariant-loop-p l = (p : ℕ) → p < l.p → length (script_of l.scripts p) ≤ times p l.order
