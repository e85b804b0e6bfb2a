use Rattle.std.proofs.Common.{◌≡◌, ◌++◌, length, map, take, string_bytes}
use Rattle.apex_ports.specs.Sound.{IsSound}
use Rattle.apex_texts.specs.Report.{entry_lines}
use Rattle.apex_threads.specs.Collected.{AreCounted}
use Rattle.apex_runs.proofs.pass.push_calls.Given as goal

abbrev pub invariant-loop-byte : goal.invariant-loop-byte
invariant-loop-byte l = record {
  counted : AreCounted l.ports.history l.scripts l.replies l.counts;
  config : l.ports.config ≡ l.fn.ports.config;
  sound : IsSound l.ports.config l.ports.history;
  written : string_bytes l.text ≡ string_bytes l.fn.text ++ entry_lines l.fn.ports.config 1 l.ports.history;
  number : l.number ≡ l.byte-index;
  length : length l.ports.history ≡ l.byte-index;
  ordered : map (λ entry. entry.partition) l.ports.history ≡ take l.byte-index l.order;
}
