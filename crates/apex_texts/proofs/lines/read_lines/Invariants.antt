use Rattle.apex_texts.proofs.Common.{◌≡◌, ◌+◌, ◌≤◌, length, lines, items_from, items_of}
use Rattle.apex_texts.proofs.LineLemmas.{with_front}
use Rattle.apex_texts.proofs.lines.read_lines.Given as goal

abbrev pub invariant-loop-line : goal.invariant-loop-line
invariant-loop-line g l = record {
  read : with_front l.items.items (items_from (g.F.LineForm.item_at l.form) (l.number + 1) (lines l.rest)) ≡ items_of (g.F.LineForm.item_at l.form) l.text;
  bound : l.number + length l.rest ≤ length l.text;
}

abbrev pub decreases-loop-line : goal.decreases-loop-line
decreases-loop-line g l = length l.rest
