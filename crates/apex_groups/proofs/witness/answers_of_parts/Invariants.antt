use Rattle.apex_groups.proofs.Common.{◌≡◌, length, AreKnown}
use Rattle.apex_groups.proofs.witness.answers_of_parts.Given as goal

abbrev pub invariant-loop-part : goal.invariant-loop-part
invariant-loop-part g l = record {
  same : l.scripts ≡ l.fn.scripts;
  count : length l.answers.items ≡ length l.asked;
  known : AreKnown l.clock g.P.Progress.CanStop l.config l.fn.scripts l.bound l.asked l.answers.items;
}

abbrev pub invariant-loop-p : goal.invariant-loop-p
invariant-loop-p g l = record {
  same : l.scripts ≡ l.fn.scripts;
  count : length l.answers.items ≡ length l.asked;
  known : AreKnown l.clock g.P.Progress.CanStop l.config l.fn.scripts l.bound l.asked l.answers.items;
}
