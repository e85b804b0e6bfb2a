use Rattle.apex_groups.proofs.Common.{◌≡◌, totals_below}
use Rattle.apex_groups.proofs.different_ends.totals_of.Given as goal

abbrev pub invariant-loop-c : goal.invariant-loop-c
invariant-loop-c l = l.totals.items ≡ totals_below l.ports.config l.ports.history l.c
