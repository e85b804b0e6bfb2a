use Rattle.apex_texts.proofs.Common.{◌-◌, length, drop, [], ◌∷◌, sym, ap, ◌∙◌, rules, arith, drop-length, length-drop, take_all}
use Rattle.apex_texts.proofs.TextLemmas.{from_word, word_some, words_none, words_at, words_last, words_between}
use Rattle.apex_texts.proofs.text.word_bounds.Goals as goal

pub returns-in_default-clause-none : goal.returns-in_default-clause-none
returns-in_default-clause-none c same = words_none c.args.line.now (search rules)

pub returns-in-Some-near_blank_in-clause-none : goal.returns-in-Some-near_blank_in-clause-none
returns-in-Some-near_blank_in-clause-none c same =
    let rest = from_word c.args.line.now c.split_at.result.1.now c.in-Some.start (search rules) c.split_at.ensures.back in
    let some = word_some c.split_at.result.1.now c.in-Some-near_blank_in.length rest.some rest.word c.in-Some-near_blank_in.ensures in
    absurd (omega arith)

pub returns-in-Some-near_blank_in-clause-word : goal.returns-in-Some-near_blank_in-clause-word
returns-in-Some-near_blank_in-clause-word c lt =
    let rest = from_word c.args.line.now c.split_at.result.1.now c.in-Some.start (search rules) c.split_at.ensures.back in
    words_between c.args.line.now c.split_at.result.1.now c.in-Some.start c.in-Some-near_blank_in.length (search rules) c.split_at.ensures.back
    (words_at c.split_at.result.1.now c.in-Some-near_blank_in.length rest.some rest.word c.in-Some-near_blank_in.ensures)

pub long_word-requires-clause-word : goal.long_word-requires-clause-word
long_word-requires-clause-word c =
    let rest = from_word c.args.line.now c.split_at.result.1.now c.in-Some.start (search rules) c.split_at.ensures.back in
    rest.word

pub returns-in-None-clause-word : goal.returns-in-None-clause-word
returns-in-None-clause-word c lt =
    let from = from_word c.args.line.now c.split_at.result.1.now c.in-Some.start (search rules) c.split_at.ensures.back in
    let last = words_last c.split_at.result.1.now from.some from.word (c.in-None.ensures c.if-rest-le-NEAR_BYTES.true) in
    let size = length-drop c.in-Some.start c.args.line.now in
    rw (take_all (length c.args.line.now - c.in-Some.start) (drop c.in-Some.start c.args.line.now) (omega (arith, size)), drop-length c.args.line.now)
    (sym from.same ∙ last ∙ ap (λ rest. rest ∷ []) c.split_at.ensures.back)

pub returns-in-None-2-clause-word : goal.returns-in-None-2-clause-word
returns-in-None-2-clause-word c lt =
    words_between c.args.line.now c.split_at.result.1.now c.in-Some.start c.long_word.result (search rules) c.split_at.ensures.back c.long_word.ensures.word
