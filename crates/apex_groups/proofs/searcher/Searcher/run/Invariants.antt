use Rattle.apex_groups.specs.PartSearches.{IsSearcher}
use Rattle.apex_groups.proofs.searcher.Searcher.run.Given as goal

abbrev pub invariant-loop-completed : goal.invariant-loop-completed
invariant-loop-completed g l = IsSearcher l.clock l.config l.bound l.parts l.self
