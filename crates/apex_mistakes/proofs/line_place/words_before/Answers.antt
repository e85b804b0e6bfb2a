use Rattle.apex_mistakes.proofs.Common.{◌+◌, length, drop, sym, ap, ◌∙◌, words_of, parameters_at, misfit}
use Rattle.apex_texts.specs.declared.expected.Expected.TheVariants as kinds
use Rattle.apex_mistakes.proofs.PlaceLemmas.{words_from, expected-count, argument-before}
use Rattle.apex_mistakes.proofs.line_place.words_before.Goals as goal

pub returns-in-TooManyWords-clause-exact : goal.returns-in-TooManyWords-clause-exact
returns-in-TooManyWords-clause-exact c =
    let front = c.args.front.now in
    let words = words_of c.args.line.now in
    let parameters = c.parameters_at.ensures.exact ∙ ap parameters_at (ap words_of c.from_word_at.ensures ∙ words_from (length front) c.args.line.now) in
    rw c.in-TooManyWords.is (expected-count front kinds.Service c.parameters_at.result.now (parameters_at (drop (length front) words)) parameters)

pub returns-in_default-clause-exact : goal.returns-in_default-clause-exact
returns-in_default-clause-exact c =
    let front = c.args.front.now in
    let line = c.args.line.now in
    let parameters = c.parameters_at-parameters.ensures.exact ∙ ap parameters_at (ap words_of c.from_word_at-in_default.ensures ∙ words_from (length front) line) in
    let arguments = ap words_of c.from_word_at-in_default-2.ensures ∙ words_from (length front + 1) line in
    let fits = c.misfit.ensures.exact ∙ ap (λ xs. misfit xs (words_of c.from_word_at-in_default-2.result.now)) parameters ∙ ap (misfit (parameters_at (drop (length front) (words_of line)))) arguments in
    ap (λ n. length front + 1 + n) fits
    ∙ sym (argument-before front c.args.fault (words_of line) c.in_default.not-TooFewWords c.in_default.not-TooManyWords c.in_default.not-Moment c.in_default.not-Partition c.in_default.not-UnknownCall)
