use Rattle.apex_orders.proofs.Common.{ℕ, ◌<◌, HasSameCounts}
use Rattle.apex_orders.proofs.point.has_same_counts.Given as goal

abbrev pub invariant-loop-c : goal.invariant-loop-c
invariant-loop-c l = (c : ℕ) → c < l.c → HasSameCounts l.a.config l.a.history l.b.history c
