use Rattle.apex_mistakes.proofs.Common.{◌≡◌, ◌+◌, ◌-◌, ◌≤◌, ◌++◌, length, take, lines, log_places_from}
use Rattle.apex_mistakes.proofs.faulty_log.find_log_faults.Given as goal

abbrev pub invariant-loop-line : goal.invariant-loop-line
invariant-loop-line g l = record {
  first : l.first.items ++ take (l.most - l.count) (log_places_from (g.F.LogForm.asked_by l.form) l.front (l.number + 1) (lines l.rest)) ≡ take l.most (log_places_from (g.F.LogForm.asked_by l.form) l.front 1 (lines l.text));
  counted : l.count + length (log_places_from (g.F.LogForm.asked_by l.form) l.front (l.number + 1) (lines l.rest)) ≡ length (log_places_from (g.F.LogForm.asked_by l.form) l.front 1 (lines l.text));
  fewer : l.count ≤ l.number;
  bound : l.number + length l.rest ≤ length l.text;
}

abbrev pub decreases-loop-line : goal.decreases-loop-line
decreases-loop-line g l = length l.rest
