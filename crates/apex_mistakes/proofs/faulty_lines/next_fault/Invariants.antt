use Rattle.apex_mistakes.proofs.Common.{◌≡◌, ◌+◌, ◌≤◌, length, lines, places_from}
use Rattle.apex_mistakes.proofs.faulty_lines.next_fault.Given as goal

abbrev pub invariant-loop-line : goal.invariant-loop-line
invariant-loop-line g l = record {
  left : places_from (g.F.LineForm.item_at l.form) l.front (l.before + 1) (lines l.text) ≡ places_from (g.F.LineForm.item_at l.form) l.front (l.number + 1) (lines l.rest);
  later : l.before ≤ l.number;
  bound : l.number + length l.rest ≤ l.before + length l.text;
}

abbrev pub decreases-loop-line : goal.decreases-loop-line
decreases-loop-line g l = length l.rest
