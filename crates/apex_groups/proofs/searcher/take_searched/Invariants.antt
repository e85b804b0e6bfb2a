use Rattle.apex_groups.specs.PartSearches.{AreStillSearchers}
use Rattle.apex_groups.proofs.searcher.take_searched.Given as goal

abbrev pub invariant-loop-k : goal.invariant-loop-k
invariant-loop-k l = AreStillSearchers l.fn.searchers l.searchers
