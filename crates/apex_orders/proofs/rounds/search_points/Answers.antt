use Rattle.apex_orders.proofs.Common.{sym, ◌∙◌, HasNothingLeft}
use Rattle.apex_orders.proofs.AnswerLemmas.{ended, when_none}
use Rattle.apex_orders.proofs.rounds.search_points.Goals as goal

pub returns-clause-ended : goal.returns-clause-ended
returns-clause-ended g c =
    let found = c.into_found.ensures in
    let ran = c.in_ok-given_up.ensures in
    ended c.args.clock c.args.config.now c.args.scripts.now c.args.asked.now c.run.new.self ran.under_way c.into_found.result
    (λ whole. when_none c.in_ok-given_up.given_up (HasNothingLeft c.run.new.self) (sym found.given_up ∙ whole) ran.over)
    found.orders found.replies found.answers
