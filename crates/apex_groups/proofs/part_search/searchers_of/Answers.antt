use Rattle.apex_groups.proofs.Common.{sym, subst}
use Rattle.apex_groups.specs.PartSearches.{AreSearchers, IsSearcher}
use Rattle.apex_groups.proofs.PartSearchLemmas.{each_and_last}
use Rattle.apex_groups.proofs.part_search.searchers_of.Goals as goal

pub loop-preserved : goal.loop-preserved
loop-preserved g c clock config bound =
    let parts = c.args.parts.now in
    subst (AreSearchers clock config bound parts) (sym c.in_ok-push.ensures.items)
    (each_and_last (IsSearcher clock config bound parts) c.loop.searchers.items c.in_ok-new.field-0 (c.loop.invariant clock config bound) (c.in_ok-new.ensures clock config bound))
