use Rattle.std.proofs.Common.{◌≡◌, ◌+◌, ◌++◌, drop, string_bytes}
use Rattle.apex_texts.specs.Report.{entry_lines}
use Rattle.apex_workers.proofs.board_report.push_log.Given as goal

abbrev pub invariant-loop-entry : goal.invariant-loop-entry
invariant-loop-entry l = record {
  number : l.number ≡ l.entry-index;
  written : string_bytes l.text ++ entry_lines l.board.config (l.entry-index + 1) (drop l.entry-index l.log) ≡ string_bytes l.fn.text ++ entry_lines l.board.config 1 l.log;
}
