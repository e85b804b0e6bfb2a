use Rattle.apex_groups.proofs.Common.{subst, Scripts}
use Rattle.apex_groups.proofs.Exchanged.{of_ok}
use Rattle.apex_groups.specs.PartSearches.{IsFarEnough}
use Rattle.apex_orders.specs.Searches.{IsOutcomeSearch}
use Rattle.apex_groups.proofs.searcher.Searcher.take_search.Goals as goal

pub returns-in-None-clause-search : goal.returns-in-None-clause-search
returns-in-None-clause-search c = of_ok _ _ c.new.result (λ search every clock bound parts part are here same. every clock) c.new.ensures

pub returns-in-Some-All-clause-search : goal.returns-in-Some-All-clause-search
returns-in-Some-All-clause-search c = of_ok _ _ c.new-in-Some-All.result (λ search every clock bound parts part are here same. every clock) c.new-in-Some-All.ensures

pub returns-clause-search : goal.returns-clause-search
returns-clause-search c clock bound parts part are here same =
    let taken = c.in-Some-GivenUp in
    let far = are.each c.args.k part taken.field-0 here taken.ensures.found in
    let search = subst (IsFarEnough clock (Unit {0}) c.args.config.now part.scripts.items bound) taken.field-0-is far in
    subst (λ (scripts : Scripts). IsOutcomeSearch clock c.args.config.now scripts taken.search) same search.valid
