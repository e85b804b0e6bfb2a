use Rattle.apex_groups.proofs.Common.{ℕ, Bool, Configuration}
use Rattle.apex_groups.specs.PartSearches.{AreSearchers}
use Rattle.apex_groups.proofs.part_search.searchers_of.Given as goal

abbrev pub invariant-loop : goal.invariant-loop
invariant-loop g l = (clock : Bool) (config : Configuration) (bound : ℕ) → AreSearchers clock config bound l.parts l.searchers.items
