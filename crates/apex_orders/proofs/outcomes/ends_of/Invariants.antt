use Rattle.apex_orders.proofs.Common.{take, AreEndsOf}
use Rattle.apex_orders.proofs.outcomes.ends_of.Given as goal

abbrev pub invariant-loop-k : goal.invariant-loop-k
invariant-loop-k l = AreEndsOf l.config l.scripts (take l.k l.orders) l.ends.items
