use Rattle.apex_groups.specs.Deciding.{Decides}
use Rattle.apex_groups.proofs.shortening.shortened_by.Given as goal

abbrev pub invariant-loop : goal.invariant-loop
invariant-loop l = Decides l.clock l.config l.scripts l.asked l.short
