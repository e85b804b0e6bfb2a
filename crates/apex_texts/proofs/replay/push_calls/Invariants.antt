use Rattle.apex_texts.proofs.Common.{◌≡◌, ◌+◌, ◌≤◌, ◌++◌, length, string_bytes, lines, requests_of, items_from, entry_lines, request_at, trace_of}
use Rattle.apex_ports.specs.Sound.{IsSound}
use Rattle.apex_texts.proofs.LineLemmas.{with_front}
use Rattle.apex_texts.proofs.replay.push_calls.Given as goal

abbrev pub invariant-loop-line : goal.invariant-loop-line
invariant-loop-line l = record {
  read : with_front (requests_of l.ports.history) (items_from (request_at l.fn.ports.config) (l.line_number + 1) (lines l.rest)) ≡ trace_of l.fn.ports.config l.trace;
  config : l.ports.config ≡ l.fn.ports.config;
  sound : IsSound l.ports.config l.ports.history;
  written : string_bytes l.text ≡ string_bytes l.fn.text ++ entry_lines l.fn.ports.config 1 l.ports.history;
  number : l.number ≡ length l.ports.history;
  fewer : l.number ≤ l.line_number;
  bound : l.line_number + length l.rest ≤ length l.trace;
}

abbrev pub decreases-loop-line : goal.decreases-loop-line
decreases-loop-line l = length l.rest
