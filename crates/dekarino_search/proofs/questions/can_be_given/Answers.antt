use Rattle.std.proofs.Common.{◌≡◌, ap, sym, ◌∙◌, subst}
use Rattle.apex_ports.specs.ReplyTable.{reply_to}
use Rattle.apex_orders.specs.declared.asked.Admitted.{Admitted}
use Rattle.apex_orders.specs.Outcomes.{Admits}
use Rattle.apex_texts.specs.Service.{service_of}
use Rattle.apex_words.specs.Replies.{can_give, can_give_code}
use Rattle.apex_words.proofs.ReplyLemmas.{replies_given}
use Rattle.dekarino_search.proofs.questions.can_be_given.Goals as goal

pub returns-in-Reply : goal.returns-in-Reply
returns-in-Reply c = λ config history p now admits.
    let replied = reply_to config history p now c.args.call.now in
    let is : replied ≡ c.in-Reply.reply = subst (λ (admitted : Admitted). Admits admitted replied) c.in-Reply.is admits in
    let service = c.of-service.ensures ∙ ap service_of c.of-asked.ensures.call in
    c.can_give.ensures
    ∙ ((λ i. can_give (service i) (sym is i)) ∙ (replies_given config history p now c.args.call.now).reply)

pub returns-in-Code : goal.returns-in-Code
returns-in-Code c = λ config history p now admits.
    let given = replies_given config history p now c.args.call.now in
    let service = c.of-service.ensures ∙ ap service_of c.of-asked.ensures.call in
    c.can_give_code.ensures
    ∙ (ap (λ it. can_give_code it c.in-Code.code) service
    ∙ given.code c.in-Code.code (subst (λ (admitted : Admitted). Admits admitted (reply_to config history p now c.args.call.now)) c.in-Code.is admits))
