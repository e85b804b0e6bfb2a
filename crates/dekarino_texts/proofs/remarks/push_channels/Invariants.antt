use Rattle.dekarino_texts.proofs.Common.{◌≡◌, ◌++◌, drop, channel_remarks}
use Rattle.dekarino_texts.proofs.remarks.push_channels.Given as goal

abbrev pub invariant-loop-c : goal.invariant-loop-c
invariant-loop-c l =
    let config = l.fn.ports.config in
    l.remarks.items ++ channel_remarks config l.fn.ports.history l.c (drop l.c config.channels) ≡ l.fn.remarks.items ++ channel_remarks config l.fn.ports.history 0 config.channels
