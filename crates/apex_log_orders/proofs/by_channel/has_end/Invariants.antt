use Rattle.apex_log_orders.proofs.Common.{◌≡◌, ◌==◌, false, take, list_any, ports_of}
use Rattle.apex_log_orders.proofs.by_channel.has_end.Given as goal

abbrev pub invariant-loop-index : goal.invariant-loop-index
invariant-loop-index l = list_any (λ port. port.channel == l.channel) (take l.index (ports_of l.config l.p)) ≡ false
