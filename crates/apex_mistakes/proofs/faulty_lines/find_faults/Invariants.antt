use Rattle.apex_mistakes.proofs.Common.{◌≡◌, ◌+◌, ◌-◌, ◌≤◌, ◌++◌, length, take, lines, places_from, places_of}
use Rattle.apex_mistakes.proofs.faulty_lines.find_faults.Given as goal

abbrev pub invariant-loop-place : goal.invariant-loop-place
invariant-loop-place g l = record {
  first : l.first.items ++ take (l.most - l.count) (places_from (g.F.LineForm.item_at l.form) l.front (l.number + 1) (lines l.rest)) ≡ take l.most (places_of (g.F.LineForm.item_at l.form) l.front l.text);
  counted : l.count + length (places_from (g.F.LineForm.item_at l.form) l.front (l.number + 1) (lines l.rest)) ≡ length (places_of (g.F.LineForm.item_at l.form) l.front l.text);
  fewer : l.count ≤ l.number;
  bound : l.number + length l.rest ≤ length l.text;
}

abbrev pub decreases-loop-place : goal.decreases-loop-place
decreases-loop-place g l = length l.rest
