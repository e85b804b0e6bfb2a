use Rattle.std.proofs.Common.{◌+◌, ◌≤◌, length}
use Rattle.std.specs.Str.Lines.{lines}
use Rattle.apex_logs.specs.Log.{entries_from}
use Rattle.apex_logs.specs.TimedCall.{own_request_at}
use Rattle.dekarino_search.proofs.OwnLogLemmas.{IsReadSoFar}
use Rattle.dekarino_search.proofs.own_logs.entries_in.Given as goal

abbrev pub invariant-loop-lines : goal.invariant-loop-lines
invariant-loop-lines l = record {
  read : IsReadSoFar l.time_outs l.entries.items (entries_from (own_request_at l.p) (l.number + 1) (lines l.rest)) (entries_from (own_request_at l.p) 1 (lines l.text));
  bound : l.number + length l.rest ≤ length l.text;
}

abbrev pub decreases-loop-lines : goal.decreases-loop-lines
decreases-loop-lines l = length l.rest
