use Rattle.apex_texts.proofs.Common.{◌++◌, append_assoc, codes, decimal, string_bytes, IfOk-equal, hex_text_of, reply_text}
use Rattle.apex_texts.proofs.report_text.push_reply.Goals as goal

pub returns-in-Id : goal.returns-in-Id
unfolding reply_text
returns-in-Id c =
    rw c.in-Id.is (IfOk-equal c.push_count.result (string_bytes c.push_count.new.text) (string_bytes c.args.text.now ++ codes "NO_ERROR id " ++ decimal c.from.result) _ c.push_count.ensures (rw c.from.ensures (simp append_assoc)))

pub returns-in_ok-push_word-in-Received : goal.returns-in_ok-push_word-in-Received
unfolding reply_text
returns-in_ok-push_word-in-Received c =
    rw c.in-Received.is (IfOk-equal c.push_bytes.result (string_bytes c.push_bytes.new.text) (string_bytes c.push_word-in-Received.new.text ++ hex_text_of c.in-Received.message.now) _ c.push_bytes.ensures
    (rw c.in_ok-push_word-in-Received.ensures (simp append_assoc)))

pub returns-in_ok-push_word-in-Read-2 : goal.returns-in_ok-push_word-in-Read-2
unfolding reply_text
returns-in_ok-push_word-in-Read-2 c =
    rw c.in-Read.is (IfOk-equal c.push_word-in-Read-3.result (string_bytes c.push_word-in-Read-3.new.text) (string_bytes c.push_word-in-Read-2.new.text ++ c.word-in-Read.result.now) _ c.push_word-in-Read-3.ensures
    (rw (c.word-in-Read.ensures, c.in_ok-push_word-in-Read-2.ensures, c.in_ok-push_bytes-in-Read.ensures, c.in_ok-push_word-in-Read.ensures) (simp append_assoc)))
