use Rattle.apex_judge.proofs.Common.{false, [], ◌∷◌, ◌++◌, sym, ap, subst, ◌∙◌, History, entry_of, Shows, Picture, picture_of, with_effects, with_doubt, Subject}
use Rattle.apex_judge.proofs.EntrySteps.{after_agreeing}
use Rattle.apex_judge.proofs.state.State.add_agreeing.Goals as goal

pub returns-clause-shown : goal.returns-clause-shown
returns-clause-shown g c =
    let entry = entry_of c.args.partition c.args.at c.args.call.now c.args.reply.now in
    let config = c.args.config.now in
    let noted = with_effects config entry (picture_of config c.args.self.now.log) in
    let log = c.push.ensures ∙ ap (λ (log : History). log ++ entry ∷ []) c.in_ok-note.ensures.log in
    let subject = ap (λ (subject : Subject). with_doubt c.args.partition subject false noted) (c.subject_of-subject.ensures c.args.at) in
    let after = ap (picture_of config) log ∙ (after_agreeing config c.args.self.now.log entry c.requires.agrees ∙ sym subject) in
    subst (λ (picture : Picture). Shows config picture c.note.new.self) (sym after) c.in_ok-note.ensures.shown
