use Rattle.apex_groups.specs.Groups.{AreExchanged, in_group}
use Rattle.apex_groups.proofs.Exchanged.{below}
use Rattle.apex_groups.proofs.exchanging.exchange.Given as goal

abbrev pub invariant-loop-p : goal.invariant-loop-p
invariant-loop-p g l = record {
  one : AreExchanged (below l.p (in_group l.groups.of_partitions.items l.group)) l.fn.one l.fn.other l.one;
  other : AreExchanged (below l.p (in_group l.groups.of_partitions.items l.group)) l.fn.other l.fn.one l.other;
}
