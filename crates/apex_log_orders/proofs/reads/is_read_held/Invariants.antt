use Rattle.apex_log_orders.proofs.Common.{◌<◌, ℕ, length, entries_of, log_in, NoneWrites}
use Rattle.apex_log_orders.proofs.reads.is_read_held.Given as goal

abbrev pub invariant-loop-q : goal.invariant-loop-q
invariant-loop-q l = (s : ℕ) → s < l.q → NoneWrites l.config l.port.channel l.message (log_in l.logs s) 0 (length (entries_of s l.walk.judge.log))
