use Rattle.apex_orders.proofs.Common.{◌≡◌, calls_below}
use Rattle.apex_orders.proofs.hash.hash_of_calls.Given as goal

abbrev pub invariant-loop-p : goal.invariant-loop-p
invariant-loop-p l = l.hash ≡ calls_below l.p l.ports.history
