use Rattle.apex_log_orders.proofs.Common.{◌≡◌, take, about}
use Rattle.apex_log_orders.proofs.by_channel.log_about.Given as goal

abbrev pub invariant-loop-entry : goal.invariant-loop-entry
invariant-loop-entry l = l.entries.items ≡ about l.config l.channel (take l.entry-index l.entry-items)
