use Rattle.apex_groups.proofs.Common.{List, ◌∙◌, subst, Asked}
use Rattle.apex_orders.specs.Outcomes.{AreAnswersTo}
use Rattle.apex_groups.proofs.ReplyLemmas.{none_missing, orders_are}
use Rattle.apex_groups.proofs.reply_orders.orders_of_replies.Goals as goal

pub orders_in-requires : goal.orders_in-requires
orders_in-requires g c =
    let clock = c.args.clock in
    let can_stop = g.P.Progress.CanStop in
    let config = c.args.config.now in
    let scripts = c.args.scripts.now in
    let answers = c.in_ok-answers.answers.items in
    none_missing clock can_stop config scripts c.args.bound c.args.replies.items answers
    (subst (λ (asked : List Asked). AreAnswersTo clock can_stop config scripts c.args.bound asked answers) (c.as_slice-asked.ensures.value ∙ c.in_ok-asked.ensures) c.in_ok-answers.ensures.answers)
    c.requires.possible

pub returns-clause-orders : goal.returns-clause-orders
returns-clause-orders g c =
    let clock = c.args.clock in
    let can_stop = g.P.Progress.CanStop in
    let config = c.args.config.now in
    let scripts = c.args.scripts.now in
    let answers = c.in_ok-answers.answers.items in
    orders_are clock can_stop config scripts c.args.bound c.args.replies.items answers
    (subst (λ (asked : List Asked). AreAnswersTo clock can_stop config scripts c.args.bound asked answers) (c.as_slice-asked.ensures.value ∙ c.in_ok-asked.ensures) c.in_ok-answers.ensures.answers)
    c.in_ok-orders.orders.items c.in_ok-orders.ensures
