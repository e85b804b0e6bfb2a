use Rattle.apex_texts.proofs.Common.{◌++◌, append_assoc, string_bytes, IfOk-equal, sampling_status_text}
use Rattle.apex_texts.proofs.report_text.push_sampling_status.Goals as goal

pub returns : goal.returns
unfolding sampling_status_text
returns c =
    IfOk-equal c.push_word-4.result (string_bytes c.push_word-4.new.text) (string_bytes c.push_word-3.new.text ++ c.word-2.result.now) _ c.push_word-4.ensures
    (rw (c.word-2.ensures, c.in_ok-push_word-3.ensures, c.in_ok-push_word-2.ensures, c.word.ensures, c.in_ok-push_word.ensures, c.in_ok-push_count-2.ensures, c.from.ensures, c.in_ok-push_count.ensures) (simp append_assoc))
