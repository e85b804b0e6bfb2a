use Rattle.dekarino_texts.proofs.Common.{◌≡◌, ◌+◌, ◌≤◌, length, lines, requests_of, items_from, request_at, trace_of, explanation_of}
use Rattle.apex_ports.specs.Sound.{IsSound}
use Rattle.apex_texts.proofs.LineLemmas.{with_front}
use Rattle.dekarino_texts.proofs.ExplanationLemmas.{IsUnderWay}
use Rattle.dekarino_texts.proofs.explanation.explain_lines.Given as goal

abbrev pub invariant-loop-line : goal.invariant-loop-line
invariant-loop-line g l = record {
  read : with_front (requests_of l.ports.history) (items_from (request_at l.fn.ports.config) (l.number + 1) (lines l.rest)) ≡ trace_of l.fn.ports.config l.trace;
  config : l.ports.config ≡ l.fn.ports.config;
  sound : IsSound l.ports.config l.ports.history;
  explained : IsUnderWay g.S.ExplanationSink.takes l.fn.ports.config l.ports.history l.notes l.number l.rest l.fn.sink l.sink (explanation_of l.fn.ports.config l.trace);
  bound : l.number + length l.rest ≤ length l.trace;
}

abbrev pub decreases-loop-line : goal.decreases-loop-line
decreases-loop-line g l = length l.rest
