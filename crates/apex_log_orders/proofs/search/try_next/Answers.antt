use Rattle.apex_log_orders.proofs.Common.{sym, ◌∙◌, false≢true}
use Rattle.apex_log_orders.proofs.Tries.{none_left}
use Rattle.apex_log_orders.proofs.search.try_next.Goals as goal

pub add-requires-clause-none : goal.add-requires-clause-none
add-requires-clause-none c =
    let walk = c.requires.walk in
    none_left c.args.config.now c.args.logs.now c.args.walk.now.judge.log c.args.walk.now.path.items c.args.walk.now.choices.items walk.log walk.tried
    (sym c.candidate.ensures.exact ∙ c.in_default.is)
    (λ order. false≢true (sym c.if-has_made_all.false ∙ c.has_made_all.ensures.1 order))

pub returns-in_default-clause-step : goal.returns-in_default-clause-step
returns-in_default-clause-step c =
    let walk = c.requires.walk in
    none_left c.args.config.now c.args.logs.now c.args.walk.now.judge.log c.args.walk.now.path.items c.args.walk.now.choices.items walk.log walk.tried
    (sym c.candidate.ensures.exact ∙ c.in_default.is)
    (λ order. false≢true (sym c.if-has_made_all.false ∙ c.has_made_all.ensures.1 order))
