use Rattle.std.proofs.Common.{below_more}
use Rattle.apex_orders.proofs.same_state.is_same_state.Goals as goal

pub loop-p-preserved : goal.loop-p-preserved
loop-p-preserved g c = below_more _ _ c.loop-p.invariant (c.is_same_partition.ensures.0 c.if-not-is_same_partition.false)
