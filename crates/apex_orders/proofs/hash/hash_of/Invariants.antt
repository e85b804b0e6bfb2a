use Rattle.apex_orders.proofs.Common.{◌≡◌, shown_hash, channels_below}
use Rattle.apex_orders.proofs.hash.hash_of.Given as goal

abbrev pub invariant-loop-c : goal.invariant-loop-c
invariant-loop-c l = l.hash ≡ channels_below l.ports.config (shown_hash l.ports.config l.ports.history) l.c l.ports.history
