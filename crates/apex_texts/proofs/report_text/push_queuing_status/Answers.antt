use Rattle.apex_texts.proofs.Common.{◌++◌, append_assoc, codes, string_bytes, IfOk-equal, queuing_status_text}
use Rattle.apex_texts.proofs.report_text.push_queuing_status.Goals as goal

pub returns : goal.returns
unfolding queuing_status_text
returns c =
    IfOk-equal c.push_word-3.result (string_bytes c.push_word-3.new.text) (string_bytes c.push_word-2.new.text ++ codes " processes 0") _ c.push_word-3.ensures
    (rw (c.in_ok-push_word-2.ensures, c.word.ensures, c.in_ok-push_word.ensures, c.in_ok-push_count-3.ensures, c.from-3.ensures, c.in_ok-push_count-2.ensures, c.from-2.ensures, c.in_ok-push_count.ensures, c.from.ensures) (simp append_assoc))
