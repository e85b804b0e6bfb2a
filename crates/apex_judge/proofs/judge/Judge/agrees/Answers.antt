use Rattle.apex_judge.proofs.Common.{◌≡◌, ◌↔◌, IsTrue, sym, ap, subst, ◌∙◌, Call, reply_of, row_of, JudgeView, agrees, shown, reply_shown}
use Rattle.apex_ports.specs.declared.rows.Row.{Row}
use Rattle.apex_judge.proofs.ReplyTests.{agrees_is, agrees_from}
use Rattle.apex_judge.proofs.judge.Judge.agrees.Goals as goal

pub returns-clause-exact : goal.returns-clause-exact
returns-clause-exact g c =
    let config = c.self.inside.config in
    let log = c.self.inside.state.log in
    let p = c.args.partition in
    let logged = c.args.reply.now in
    let standard = reply_shown config log p c.args.at c.args.call.now in
    let row_is : c.row-row.result ≡ row_of config (shown config log p) p c.args.at c.args.call.now =
    c.row-row.ensures ∙ ap (λ (it : Call). row_of config (shown config log p) p c.args.at it) c.of.ensures.call in
    let test : c.agrees.result ≡ agrees standard logged =
    c.agrees.ensures ∙ ap (λ (row : Row). agrees (reply_of config (shown config log p) p row) logged) row_is in
    subst (λ (v : JudgeView). IsTrue c.agrees.result ↔ (logged ≡ reply_shown v.config v.log p c.args.at c.args.call.now)) c.self.view_is
    ((λ yes. agrees_is standard logged (sym test ∙ yes)), (λ same. test ∙ agrees_from standard logged same))
