use Rattle.apex_texts.proofs.Common.{◌≡◌, ◌++◌, Some, sym, ap, ◌∙◌, append_assoc, codes, string_bytes, slice_get, hex_text_of, waiting_on}
use Rattle.std.specs.Option.{option_copied}
use Rattle.apex_texts.proofs.ReportLemmas.{grows, complete, message_cut, message_end}
use Rattle.apex_texts.proofs.report_text.push_waiting.Goals as goal

pub loop-index-preserved : goal.loop-index-preserved
loop-index-preserved c =
    let messages = waiting_on c.args.ports.now.config c.args.c c.args.ports.now.history in
    let found : slice_get messages c.loop-index.index ≡ Some c.unwrap-message.result.now = sym c.waiting.ensures.message ∙ ap option_copied c.unwrap-message.ensures in
    let grown : string_bytes c.push_bytes.new.text ≡ string_bytes c.loop-index.text ++ (codes " " ++ hex_text_of c.unwrap-message.result.now) =
    rw (c.in_ok-push_bytes.ensures, c.in_ok-push_word.ensures) (append_assoc (string_bytes c.loop-index.text) (codes " ") (hex_text_of c.unwrap-message.result.now)) in
    grows (string_bytes c.loop-index.text) (string_bytes c.push_bytes.new.text) _ _ _ _ grown (message_cut messages c.loop-index.index c.unwrap-message.result.now found) c.loop-index.invariant

pub returns : goal.returns
returns c = complete (string_bytes c.loop-index.text) _ _ (message_end (waiting_on c.args.ports.now.config c.args.c c.args.ports.now.history) c.loop-index.index (rw c.waiting_count-index-end.ensures.count at c.loop-index-test.false)) c.loop-index.invariant
