use Rattle.apex_groups.specs.Deciding.{Decides}
use Rattle.apex_groups.proofs.shortening.shortened.Given as goal

abbrev pub invariant-loop-p : goal.invariant-loop-p
invariant-loop-p l = Decides l.clock l.config l.scripts l.asked l.short
