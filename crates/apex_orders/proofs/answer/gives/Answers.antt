use Rattle.apex_orders.proofs.Common.{◌≡◌, ap, sym, subst, ◌∙◌, Some, order_at}
use Rattle.apex_orders.proofs.AnswerLemmas.{answered_by}
use Rattle.apex_orders.specs.Searching.{IsNextReply}
use Rattle.apex_orders.specs.declared.answer.NextReply.{NextReply}
use Rattle.apex_orders.proofs.answer.gives.Goals as goal

pub returns-in-Some-clause-known : goal.returns-in-Some-clause-known
returns-in-Some-clause-known c =
    let known = c.look_up.ensures.known in
    let both : Some known.next ≡ Some c.in-Some.next = sym known.here ∙ c.in-Some.is in
    let same : known.next ≡ c.in-Some.next = cc in
    subst (IsNextReply c.args.clock c.args.config.now c.args.scripts.now (order_at c.args.current.now.orders c.args.i)) same known.reply

pub returns-in-Some-clause-given : goal.returns-in-Some-clause-given
returns-in-Some-clause-given c =
    let known = c.look_up.ensures.known in
    let both : Some known.next ≡ Some c.in-Some.next = sym known.here ∙ c.in-Some.is in
    let same : known.next ≡ c.in-Some.next = cc in
    let next = subst (IsNextReply c.args.clock c.args.config.now c.args.scripts.now (order_at c.args.current.now.orders c.args.i)) same known.reply in
    let of : c.in-Some.next.partition ≡ c.args.asked.now.partition = sym (ap (λ (one : NextReply). one.partition) same) ∙ known.partition in
    let by = answered_by c.args.clock c.args.config.now c.args.scripts.now c.args.asked.now (order_at c.args.current.now.orders c.args.i) c.in-Some.next next of in
    ((λ yes. by.0 (c.is_answered.ensures.0 yes)), (λ answered. c.is_answered.ensures.1 (by.1 answered)))
