use Rattle.apex_texts.proofs.Common.{◌≡◌, ◌++◌, drop, string_bytes, channel_lines}
use Rattle.apex_texts.proofs.report_text.push_channels.Given as goal

abbrev pub invariant-loop-c : goal.invariant-loop-c
invariant-loop-c l = string_bytes l.text ++ channel_lines l.ports.config l.ports.history l.c (drop l.c l.ports.config.channels) ≡ string_bytes l.fn.text ++ channel_lines l.ports.config l.ports.history 0 l.ports.config.channels
