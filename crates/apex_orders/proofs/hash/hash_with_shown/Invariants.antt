use Rattle.apex_orders.proofs.Common.{◌≡◌, shown_below}
use Rattle.apex_orders.proofs.hash.hash_with_shown.Given as goal

abbrev pub invariant-loop-i : goal.invariant-loop-i
invariant-loop-i l = l.hash ≡ shown_below l.ports.config l.ports.history l.p l.before l.i
