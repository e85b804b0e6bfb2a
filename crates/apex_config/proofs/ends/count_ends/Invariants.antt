use Rattle.apex_config.proofs.Common.{take, CountMoreEnds}
use Rattle.apex_config.proofs.ends.count_ends.Given as goal

abbrev pub invariant-loop-port : goal.invariant-loop-port
invariant-loop-port l = CountMoreEnds l.direction l.channels (take l.port-index l.ports) l.initial.counts l.counts
