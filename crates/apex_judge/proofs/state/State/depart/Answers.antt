use Rattle.apex_judge.proofs.Common.{◌≡◌, ◌||◌, true, false, IfOk, sym, ap, subst, ◌∙◌, entry_of, Shows, doubted_of, Picture, picture_of, receives_later, is_believed, when_departing, subject_of, is_doubted, with_doubt, Subject}
use Rattle.apex_judge.proofs.EntrySteps.{doubts_alike}
use Rattle.apex_judge.proofs.Lookups.{partition_at}
use Rattle.apex_judge.proofs.state.State.depart.Goals as goal

pub returns-then-is_doubted-clause-shown : goal.returns-then-is_doubted-clause-shown
returns-then-is_doubted-clause-shown g c =
    let config = c.args.config.now in
    let p = c.args.partition in
    let before = picture_of config c.args.self.now.log in
    let entry = entry_of p c.args.at c.args.call.now c.args.reply.now in
    let standard = c.args.standard.now in
    let partition = partition_at _ _ _ _ c.requires.shown p c.index.result.now c.requires.partition c.index.ensures in
    let subject = c.subject_of-subject.ensures c.args.at in
    let alike = doubts_alike config before p c.index.result.now c.args.at c.args.call.now c.args.reply.now standard partition in
    let doubt : is_doubted before p (subject_of config entry standard) ≡ true =
    sym alike ∙ (ap (λ (one : Subject). doubted_of c.index.result.now one) (sym subject) ∙ (sym c.is_doubted.ensures ∙ c.if-is_doubted.true)) in
    let test : is_believed config entry standard (subject_of config entry standard) before ≡ true = λ i. doubt i || receives_later config before p entry.call standard entry.reply in
    subst (λ (one : Subject × Picture). IfOk c.believe.result (λ _. Shows config (with_doubt p one.0 true one.1) c.believe.new.self))
    (λ i. (subject i, when_departing config entry standard (sym test i) before)) c.believe.ensures.shown

pub returns-then-receives_later-clause-shown : goal.returns-then-receives_later-clause-shown
returns-then-receives_later-clause-shown g c =
    let config = c.args.config.now in
    let p = c.args.partition in
    let before = picture_of config c.args.self.now.log in
    let entry = entry_of p c.args.at c.args.call.now c.args.reply.now in
    let standard = c.args.standard.now in
    let partition = partition_at _ _ _ _ c.requires.shown p c.index.result.now c.requires.partition c.index.ensures in
    let subject = c.subject_of-subject.ensures c.args.at in
    let alike = doubts_alike config before p c.index.result.now c.args.at c.args.call.now c.args.reply.now standard partition in
    let doubt : is_doubted before p (subject_of config entry standard) ≡ false =
    sym alike ∙ (ap (λ (one : Subject). doubted_of c.index.result.now one) (sym subject) ∙ (sym c.is_doubted.ensures ∙ c.if-is_doubted.false)) in
    let receives : receives_later config before p entry.call standard entry.reply ≡ true = sym c.receives_later.ensures.test ∙ c.if-receives_later.true in
    let test : is_believed config entry standard (subject_of config entry standard) before ≡ true = λ i. doubt i || receives i in
    let log = c.receives_later.ensures.log in
    subst (λ (one : Subject × Picture). IfOk c.believe-then-receives_later.result (λ _. Shows config (with_doubt p one.0 true one.1) c.believe-then-receives_later.new.self))
    (λ i. (subject i, when_departing config entry standard (sym test i) (picture_of config (log i)))) c.believe-then-receives_later.ensures.shown

pub returns-clause-shown : goal.returns-clause-shown
returns-clause-shown g c =
    let config = c.args.config.now in
    let p = c.args.partition in
    let before = picture_of config c.args.self.now.log in
    let entry = entry_of p c.args.at c.args.call.now c.args.reply.now in
    let standard = c.args.standard.now in
    let partition = partition_at _ _ _ _ c.requires.shown p c.index.result.now c.requires.partition c.index.ensures in
    let subject = c.subject_of-subject.ensures c.args.at in
    let alike = doubts_alike config before p c.index.result.now c.args.at c.args.call.now c.args.reply.now standard partition in
    let doubt : is_doubted before p (subject_of config entry standard) ≡ false =
    sym alike ∙ (ap (λ (one : Subject). doubted_of c.index.result.now one) (sym subject) ∙ (sym c.is_doubted.ensures ∙ c.if-is_doubted.false)) in
    let receives : receives_later config before p entry.call standard entry.reply ≡ false = sym c.receives_later.ensures.test ∙ c.if-receives_later.false in
    let test : is_believed config entry standard (subject_of config entry standard) before ≡ false = λ i. doubt i || receives i in
    let log = c.receives_later.ensures.log in
    subst (λ (one : Subject × Picture). IfOk c.note.result (λ _. Shows config (with_doubt p one.0 true one.1) c.note.new.self))
    (λ i. (subject i, when_departing config entry standard (sym test i) (picture_of config (log i)))) c.note.ensures.shown
