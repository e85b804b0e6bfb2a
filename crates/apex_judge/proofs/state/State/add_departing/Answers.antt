use Rattle.apex_judge.proofs.Common.{[], ◌∷◌, ◌++◌, sym, ap, subst, ◌∙◌, History, entry_of, Shows, Picture, picture_of}
use Rattle.apex_judge.proofs.EntrySteps.{after_departing}
use Rattle.apex_judge.proofs.state.State.add_departing.Goals as goal

pub returns-clause-shown : goal.returns-clause-shown
returns-clause-shown g c =
    let entry = entry_of c.args.partition c.args.at c.args.call.now c.args.reply.now in
    let config = c.args.config.now in
    let log = c.push.ensures ∙ ap (λ (log : History). log ++ entry ∷ []) c.in_ok-depart.ensures.log in
    let after = ap (picture_of config) log ∙ after_departing config c.args.self.now.log entry c.args.standard.now c.requires.standard c.requires.departs in
    subst (λ (picture : Picture). Shows config picture c.depart.new.self) (sym after) c.in_ok-depart.ensures.shown
