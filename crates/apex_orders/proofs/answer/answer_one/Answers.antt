use Rattle.apex_orders.proofs.Common.{◌≡◌, ap, sym, ◌∙◌, arith, Some, None, slice_get, at_index}
use Rattle.apex_orders.proofs.AnswerLemmas.{answers_set, none_there, open_set, still_open}
use Rattle.apex_orders.proofs.answer.answer_one.Goals as goal

pub returns-clause-answers : goal.returns-clause-answers
returns-clause-answers c =
    let answers = c.args.answers.now.items in
    let q = c.args.q in
    let within = c.requires.question in
    let count = c.requires.answers.found.count in
    let there : slice_get answers q ≡ Some c.index.result.now = at_index answers q c.index.result.now (omega (arith, within, count)) c.index.ensures in
    let none : slice_get answers q ≡ Some None = there ∙ ap Some (none_there c.index.result.now (sym c.is_some.ensures ∙ c.if-is_some.false)) in
    answers_set c.args.clock c.args.config.now c.args.scripts.now c.args.asked.now c.args.current.now.orders c.args.i answers c.requires.answers q c.index-asked-q.result
    (at_index c.args.asked.now q c.index-asked-q.result within c.index-asked-q.is) none c.in_ok-answer.answer c.in_ok-answer.ensures.answer

pub returns-clause-looked : goal.returns-clause-looked
returns-clause-looked c one at of =
    let answers = c.args.answers.now.items in
    let q = c.args.q in
    let within = c.requires.question in
    let count = c.requires.answers.found.count in
    let there : slice_get answers q ≡ Some c.index.result.now = at_index answers q c.index.result.now (omega (arith, within, count)) c.index.ensures in
    let none : slice_get answers q ≡ Some None = there ∙ ap Some (none_there c.index.result.now (sym c.is_some.ensures ∙ c.if-is_some.false)) in
    open_set c.args.clock c.args.config.now c.args.scripts.now c.args.asked.now c.args.current.now.orders c.args.i answers c.requires.answers q c.index-asked-q.result
    (at_index c.args.asked.now q c.index-asked-q.result within c.index-asked-q.is) none c.in_ok-answer.answer c.in_ok-answer.ensures.answer

pub returns-clause-still : goal.returns-clause-still
returns-clause-still c =
    let answers = c.args.answers.now.items in
    let q = c.args.q in
    let within = c.requires.question in
    let count = c.requires.answers.found.count in
    let there : slice_get answers q ≡ Some c.index.result.now = at_index answers q c.index.result.now (omega (arith, within, count)) c.index.ensures in
    let none : slice_get answers q ≡ Some None = there ∙ ap Some (none_there c.index.result.now (sym c.is_some.ensures ∙ c.if-is_some.false)) in
    still_open c.args.clock c.args.config.now c.args.scripts.now c.args.asked.now c.args.current.now.orders c.args.i answers c.requires.answers q c.index-asked-q.result
    (at_index c.args.asked.now q c.index-asked-q.result within c.index-asked-q.is) none c.in_ok-answer.answer c.in_ok-answer.ensures.answer
