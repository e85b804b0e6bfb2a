use Rattle.apex_orders.proofs.Common.{◌≡◌, ℕ, ◌<◌, slice_get, waiting_on}
use Rattle.apex_orders.proofs.same_state.has_same_messages.Given as goal

abbrev pub invariant-loop-i : goal.invariant-loop-i
invariant-loop-i g l =
    (k : ℕ) → k < l.i → slice_get (waiting_on l.a.config l.c l.a.history) k ≡ slice_get (waiting_on l.a.config l.c l.b.history) k
