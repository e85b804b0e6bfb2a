use Rattle.apex_logs.proofs.Common.{◌≡◌, ◌+◌, ◌≤◌, length, lines, entries_from}
use Rattle.apex_logs.proofs.LogLemmas.{with_front}
use Rattle.apex_logs.proofs.log.read_log.Given as goal

abbrev pub invariant-loop-entries : goal.invariant-loop-entries
invariant-loop-entries g l = record {
  read : with_front l.entries.items (entries_from (g.F.LogForm.asked_by l.form) (l.number + 1) (lines l.rest)) ≡ entries_from (g.F.LogForm.asked_by l.form) 1 (lines l.text);
  bound : l.number + length l.rest ≤ length l.text;
}

abbrev pub decreases-loop-entries : goal.decreases-loop-entries
decreases-loop-entries g l = length l.rest
