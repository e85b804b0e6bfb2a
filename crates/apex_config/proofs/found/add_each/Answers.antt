use Rattle.std.proofs.Common.{rules}
use Rattle.apex_config.proofs.EachEntry.{one_more}
use Rattle.apex_config.proofs.found.add_each.Goals as goal

pub loop-index-preserved : goal.loop-index-preserved
loop-index-preserved g c =
    one_more (g.F.Finder.find c.args.finder.now) c.args.entries.now c.loop-index.index c.index-entries-index.result _ _ _
    c.loop-index-test.true c.index-entries-index.is c.loop-index.invariant (search rules)
