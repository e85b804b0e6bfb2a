use Rattle.apex_texts.proofs.Common.{◌≡◌, ◌++◌, drop, string_bytes, waiting_on, messages_text}
use Rattle.apex_texts.proofs.report_text.push_waiting.Given as goal

abbrev pub invariant-loop-index : goal.invariant-loop-index
invariant-loop-index l =
    string_bytes l.text ++ messages_text (drop l.index (waiting_on l.ports.config l.c l.ports.history)) ≡ string_bytes l.fn.text ++ messages_text (waiting_on l.ports.config l.c l.ports.history)
