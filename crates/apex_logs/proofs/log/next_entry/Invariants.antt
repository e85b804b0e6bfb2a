use Rattle.apex_logs.proofs.Common.{◌≡◌, ◌+◌, ◌≤◌, length, lines, entries_from}
use Rattle.apex_logs.proofs.log.next_entry.Given as goal

abbrev pub invariant-loop-line : goal.invariant-loop-line
invariant-loop-line g l = record {
  left : entries_from (g.F.LogForm.asked_by l.form) (l.before + 1) (lines l.text) ≡ entries_from (g.F.LogForm.asked_by l.form) (l.number + 1) (lines l.rest);
  later : l.before ≤ l.number;
  bound : l.number + length l.rest ≤ l.before + length l.text;
}

abbrev pub decreases-loop-line : goal.decreases-loop-line
decreases-loop-line g l = length l.rest
