use Rattle.apex_texts.proofs.Common.{length, sym, ◌∙◌, arith, drop-length, take_all}
use Rattle.apex_texts.proofs.TextLemmas.{words_at, words_last, word_some}
use Rattle.apex_texts.proofs.text.long_word.Goals as goal

pub returns-in-Some-clause-some : goal.returns-in-Some-clause-some
returns-in-Some-clause-some c = word_some c.args.line.now c.in-Some.end c.requires.some c.requires.word (sym c.blank_in.ensures ∙ c.in-Some.is)

pub returns-in-Some-clause-word : goal.returns-in-Some-clause-word
returns-in-Some-clause-word c = words_at c.args.line.now c.in-Some.end c.requires.some c.requires.word (sym c.blank_in.ensures ∙ c.in-Some.is)

pub returns-in-None-clause-word : goal.returns-in-None-clause-word
returns-in-None-clause-word c =
    rw (take_all (length c.args.line.now) c.args.line.now (omega arith), drop-length c.args.line.now)
    (words_last c.args.line.now c.requires.some c.requires.word (sym c.blank_in.ensures ∙ c.in-None.is))
