use Rattle.apex_log_orders.specs.Stuck.{NoneWrites}
use Rattle.apex_log_orders.proofs.reads.none_writes.Given as goal

abbrev pub invariant-loop-k : goal.invariant-loop-k
invariant-loop-k l = NoneWrites l.config l.channel l.message l.log l.first l.k
