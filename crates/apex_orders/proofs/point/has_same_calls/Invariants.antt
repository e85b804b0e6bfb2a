use Rattle.apex_orders.proofs.Common.{◌≡◌, ℕ, ◌<◌, count_of, entries_of}
use Rattle.apex_orders.proofs.point.has_same_calls.Given as goal

abbrev pub invariant-loop-p : goal.invariant-loop-p
invariant-loop-p l = (p : ℕ) → p < l.p → count_of (entries_of p l.a.history) ≡ count_of (entries_of p l.b.history)
