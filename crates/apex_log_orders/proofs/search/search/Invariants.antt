use Rattle.apex_log_orders.proofs.Common.{AreDead, IsBeginning, entries_at, IsWalk}
use Rattle.apex_log_orders.proofs.search.search.Given as goal

abbrev pub invariant-loop-left : goal.invariant-loop-left
invariant-loop-left g l = record {
  walk : IsWalk l.config l.logs l.walk;
  dead : AreDead l.config l.logs l.dead_ends.keys;
  longest : IsBeginning l.config l.logs (entries_at l.logs l.longest.items);
}

abbrev pub decreases-loop-left : goal.decreases-loop-left
decreases-loop-left g l = l.left
