use Rattle.apex_mistakes.proofs.Common.{◌≡◌, ◌<◌, length, drop, sym, ap, ◌∙◌, words_of, parameters_at}
use Rattle.apex_mistakes.proofs.PlaceLemmas.{words_from}
use Rattle.apex_mistakes.proofs.LogPlaceLemmas.{is-zero, not-zero, arrow-empty, arrow-some}
use Rattle.apex_mistakes.proofs.log_place.before_arrow.Goals as goal

pub returns-then-is_empty-clause-exact : goal.returns-then-is_empty-clause-exact
returns-then-is_empty-clause-exact c =
    let front = c.args.front.now in
    let words = words_of c.args.line.now in
    let found = c.parameters_at-parameters.ensures.exact ∙ ap parameters_at (ap words_of c.from_word_at.ensures ∙ words_from (length front) c.args.line.now) in
    let none : length c.parameters_at-parameters.result.now ≡ 0 = is-zero (length c.parameters_at-parameters.result.now) (sym c.is_empty.ensures ∙ c.if-is_empty.true) in
    c.count_words.ensures.exact ∙ arrow-empty front words c.parameters_at-parameters.result.now (parameters_at (drop (length front) words)) found none

pub returns-else-is_empty-clause-exact : goal.returns-else-is_empty-clause-exact
returns-else-is_empty-clause-exact c =
    let front = c.args.front.now in
    let words = words_of c.args.line.now in
    let found = c.parameters_at-parameters.ensures.exact ∙ ap parameters_at (ap words_of c.from_word_at.ensures ∙ words_from (length front) c.args.line.now) in
    let some : 0 < length c.parameters_at-parameters.result.now = not-zero (length c.parameters_at-parameters.result.now) (sym c.is_empty.ensures ∙ c.if-is_empty.false) in
    arrow-some front words c.parameters_at-parameters.result.now (parameters_at (drop (length front) words)) found some
