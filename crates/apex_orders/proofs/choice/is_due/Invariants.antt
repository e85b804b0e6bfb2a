use Rattle.apex_orders.proofs.Common.{◌≡◌, ◌<◌, ◌≤◌, ℕ, length, slice_get, Some, Call, Moment, entries_of, script_of}
use Rattle.apex_orders.proofs.choice.is_due.Given as goal

abbrev pub invariant-loop-q : goal.invariant-loop-q
invariant-loop-q l =
    (q : ℕ) → q < l.q → (other : Moment × Call) → slice_get (script_of l.scripts q) (length (entries_of q l.ports.history)) ≡ Some other → l.timed.0.0 ≤ other.0.0
