use Rattle.apex_orders.proofs.Common.{◌≡◌, all_shown_below}
use Rattle.apex_orders.proofs.hash.hash_of_shown.Given as goal

abbrev pub invariant-loop-p : goal.invariant-loop-p
invariant-loop-p l = l.hash ≡ all_shown_below l.ports.config l.ports.history l.p
