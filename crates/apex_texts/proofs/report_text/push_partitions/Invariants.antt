use Rattle.apex_texts.proofs.Common.{◌≡◌, ◌++◌, drop, string_bytes, partition_lines}
use Rattle.apex_texts.proofs.report_text.push_partitions.Given as goal

abbrev pub invariant-loop-p : goal.invariant-loop-p
invariant-loop-p l = string_bytes l.text ++ partition_lines l.ports.history l.p (drop l.p l.ports.config.partitions) ≡ string_bytes l.fn.text ++ partition_lines l.ports.history 0 l.ports.config.partitions
