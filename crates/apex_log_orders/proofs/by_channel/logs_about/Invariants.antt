use Rattle.apex_log_orders.proofs.Common.{◌≡◌, take, logs_about}
use Rattle.apex_log_orders.proofs.by_channel.logs_about.Given as goal

abbrev pub invariant-loop-log : goal.invariant-loop-log
invariant-loop-log l = l.part.items ≡ logs_about l.config l.channel (take l.log-index l.logs)
