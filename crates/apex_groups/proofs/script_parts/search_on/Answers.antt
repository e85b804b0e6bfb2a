use Rattle.apex_groups.proofs.Common.{subst}
use Rattle.apex_groups.proofs.DifferentEnds.{kept_show}
use Rattle.apex_orders.specs.Searches.{HasSearched}
use Rattle.apex_groups.proofs.script_parts.search_on.Goals as goal

pub returns : goal.returns
returns g c =
    let config = c.args.config.now in
    let scripts = c.args.scripts.now in
    let all = subst (HasSearched c.args.clock g.P.Progress.CanStop config scripts c.args.bound) c.in-All.is c.in_ok-searched.ensures in
    record {
      replies = all.replies;
      ends = kept_show config scripts c.args.clock c.in-All.found.ends.items c.in_ok-ends.ends.items all.ends c.in_ok-ends.ensures;
    }
