use Rattle.apex_log_orders.proofs.Common.{take, HasNoClear}
use Rattle.apex_log_orders.proofs.stuck.has_no_clear.Given as goal

abbrev pub invariant-loop-entry : goal.invariant-loop-entry
invariant-loop-entry l = HasNoClear (take l.entry-index l.entry-items)
