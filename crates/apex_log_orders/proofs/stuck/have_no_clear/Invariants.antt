use Rattle.apex_log_orders.proofs.Common.{◌<◌, ℕ, HasNoClear, log_in}
use Rattle.apex_log_orders.proofs.stuck.have_no_clear.Given as goal

abbrev pub invariant-loop-log : goal.invariant-loop-log
invariant-loop-log l = (q : ℕ) → q < l.log-index → HasNoClear (log_in l.logs q)
