use Rattle.apex_texts.proofs.Common.{arith, take_rest}
use Rattle.apex_texts.proofs.text.next_word.Goals as goal

pub returns-clause-word : goal.returns-clause-word
returns-clause-word c = rw (take_rest c.args.line.now c.word_bounds-start.result.1) (c.word_bounds-start.ensures.word (omega arith))
