use Rattle.apex_orders.proofs.Common.{◌≡◌, waiting_on, messages_below}
use Rattle.apex_orders.proofs.hash.hash_with_messages.Given as goal

abbrev pub invariant-loop-i : goal.invariant-loop-i
invariant-loop-i l = l.hash ≡ messages_below (waiting_on l.ports.config l.c l.ports.history) l.before l.i
