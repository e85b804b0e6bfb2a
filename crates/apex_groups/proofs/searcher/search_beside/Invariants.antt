use Rattle.apex_groups.proofs.Common.{◌<◌, length}
use Rattle.apex_groups.specs.PartSearches.{AreSearchers}
use Rattle.apex_groups.proofs.searcher.search_beside.Given as goal

abbrev pub invariant-loop : goal.invariant-loop
invariant-loop g l = record {
  some : 0 < length l.searchers;
  valid : AreSearchers l.clock l.config l.bound l.parts l.searchers;
}

abbrev pub invariant-loop-k : goal.invariant-loop-k
invariant-loop-k g l = record {
  some : 0 < length l.searchers;
  valid : AreSearchers l.clock l.config l.bound l.parts l.searchers;
}
