use Rattle.apex_log_orders.proofs.Common.{◌<◌, ℕ, NeverNext}
use Rattle.apex_log_orders.proofs.stuck.is_stuck.Given as goal

abbrev pub invariant-loop-p : goal.invariant-loop-p
invariant-loop-p l = (q : ℕ) → q < l.p → NeverNext l.config l.logs l.walk.judge.log q
