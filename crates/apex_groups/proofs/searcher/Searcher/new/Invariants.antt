use Rattle.apex_groups.proofs.Common.{◌≡◌, None, replicate}
use Rattle.apex_groups.proofs.searcher.Searcher.new.Given as goal

abbrev pub invariant-loop : goal.invariant-loop
invariant-loop l = l.searched.items ≡ replicate l.counter None
