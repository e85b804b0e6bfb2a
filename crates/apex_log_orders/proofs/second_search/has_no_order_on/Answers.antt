use Rattle.apex_log_orders.proofs.Common.{subst, HasNoOrder, IsAnswer}
use Rattle.apex_log_orders.specs.declared.answer.Answer.{Answer}
use Rattle.apex_log_orders.proofs.second_search.has_no_order_on.Goals as goal

pub returns-in-NoOrder : goal.returns-in-NoOrder
returns-in-NoOrder g c none =
    let config = c.args.config.now in
    let part = c.as_slice-part.result.now in
    let answer = subst (λ (answer : Answer). IsAnswer config part answer) c.in-NoOrder.is c.in_ok-search.ensures in
    c.in_ok-about.ensures.enough (subst (HasNoOrder config) c.as_slice-part.ensures.value answer.0)
