use Rattle.apex_groups.proofs.Common.{◌≡◌, true, entries_at, AreWhole, IsOfGroups}
use Rattle.apex_groups.proofs.log_orders.find_by_groups.Given as goal

abbrev pub invariant-loop-group : goal.invariant-loop-group
invariant-loop-group g l = record {
  same : l.logs ≡ l.fn.logs;
  joined : IsOfGroups l.config l.fn.logs l.groups.of_partitions.items l.group (entries_at l.fn.logs l.all.items);
  whole : l.is_whole ≡ true → AreWhole l.config l.fn.logs l.groups.of_partitions.items l.group (entries_at l.fn.logs l.all.items);
}
