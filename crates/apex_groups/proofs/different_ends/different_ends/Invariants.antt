use Rattle.apex_groups.proofs.Common.{◌≡◌, KeepTotals}
use Rattle.apex_groups.proofs.DifferentEnds.{AreTotalsOf}
use Rattle.apex_groups.proofs.different_ends.different_ends.Given as goal

abbrev pub invariant-loop-end : goal.invariant-loop-end
invariant-loop-end l = record {
  config : l.replayer.config ≡ l.config;
  seen : AreTotalsOf l.config l.scripts l.kept.items l.seen;
  kept : KeepTotals l.config l.scripts l.yielded l.kept.items;
}
