use Rattle.apex_config.proofs.Common.{take, Adds, at_each}
use Rattle.apex_config.proofs.found.add_each.Given as goal

abbrev pub invariant-loop-index : goal.invariant-loop-index
invariant-loop-index g l = Adds (at_each (g.F.Finder.find l.finder) 0 (take l.index l.entries)) l.initial.places.items l.places.items
