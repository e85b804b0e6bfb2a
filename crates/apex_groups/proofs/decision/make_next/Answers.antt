use Rattle.apex_groups.proofs.Common.{Some, sym, subst, History, next_entries}
use Rattle.apex_groups.specs.Deciding.{HasReply}
use Rattle.apex_groups.proofs.ReasonLemmas.{has_made, has_more}
use Rattle.apex_groups.proofs.decision.make_next.Goals as goal

pub returns-then-one-asked-clause-found : goal.returns-then-one-asked-clause-found
returns-then-one-asked-clause-found c =
    let ports = c.args.ports.now in
    let more = next_entries ports.config c.args.scripts.now ports.history c.args.p in
    subst (λ (h : History). HasReply c.args.asked.now h c.args.found.now) (sym c.step.ensures.history)
    (has_more c.args.asked.now ports.history more c.args.found.now c.requires.found)

pub returns-clause-found : goal.returns-clause-found
returns-clause-found c =
    let ports = c.args.ports.now in
    subst (λ (h : History). HasReply c.args.asked.now h (Some c.in-Some.one.reply)) (sym c.step.ensures.history)
    (has_made c.args.asked.now ports.config c.args.scripts.now c.requires.sound.valid ports.history c.args.p c.in-Some.one c.in-Some.ensures.call c.if-one-asked.false c.if-one-asked-2.false)
