use Rattle.apex_logs.proofs.Common.{sym, ap, ◌∙◌, words_none, begin_with_after}
use Rattle.apex_logs.proofs.EndLemmas.{goes_on}
use Rattle.apex_logs.proofs.log_line.may_end_calls.Goals as goal

pub returns-in-None : goal.returns-in-None
returns-in-None c = λ _. ap begin_with_after (words_none c.args.line.now (sym c.word_in.ensures ∙ c.in-None.is))

pub returns-in-Some : goal.returns-in-Some
returns-in-Some c = λ other. goes_on c.args.line.now c.in-Some.start (sym c.word_in.ensures ∙ c.in-Some.is) other
