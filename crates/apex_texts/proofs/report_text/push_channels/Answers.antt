use Rattle.apex_texts.proofs.Common.{◌≡◌, ◌++◌, Some, append_assoc, codes, string_bytes, slice_get, channel_text}
use Rattle.apex_texts.proofs.ReportLemmas.{grows, complete, channel_cut, channel_end}
use Rattle.apex_texts.proofs.report_text.push_channels.Goals as goal

pub loop-c-preserved : goal.loop-c-preserved
loop-c-preserved c =
    let found : slice_get c.args.ports.now.config.channels c.loop-c.c ≡ Some c.channel.result.now = rw (← c.config-in-loop-c.ensures.config) c.channel.ensures.found in
    let line = channel_text c.args.ports.now.config c.args.ports.now.history c.loop-c.c c.channel.result.now.name c.channel.result.now.kind in
    let grown : string_bytes c.push_word.new.text ≡ string_bytes c.loop-c.text ++ (line ++ codes "\n") =
    rw (c.in_ok-push_word.ensures, c.in_ok-push_channel.ensures) (append_assoc (string_bytes c.loop-c.text) line (codes "\n")) in
    grows (string_bytes c.loop-c.text) (string_bytes c.push_word.new.text) _ _ _ _ grown (channel_cut c.args.ports.now.config c.args.ports.now.history c.loop-c.c c.channel.result.now found) c.loop-c.invariant

pub returns : goal.returns
returns c = complete (string_bytes c.loop-c.text) _ _ (channel_end c.args.ports.now.config c.args.ports.now.history c.loop-c.c (rw c.config.ensures.config at (rw c.channels-c-end.ensures.count at c.loop-c-test.false))) c.loop-c.invariant
