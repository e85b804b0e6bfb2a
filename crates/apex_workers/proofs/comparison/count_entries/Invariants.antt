use Rattle.std.proofs.Common.{take}
use Rattle.apex_threads.specs.Collected.{AreCounted}
use Rattle.apex_workers.proofs.comparison.count_entries.Given as goal

abbrev pub invariant-loop-entry : goal.invariant-loop-entry
invariant-loop-entry g l = AreCounted (take l.entry-index l.log) l.scripts l.replies l.counts
