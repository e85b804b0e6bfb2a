use Rattle.apex_judge.proofs.Common.{◌≡◌, false, if◌then◌else◌, Some, None, sym, ◌∙◌, agrees, reply_shown}
use Rattle.apex_judge.proofs.judge.Judge.instead_of.Goals as goal

pub returns : goal.returns
returns g c =
    let other : agrees (reply_shown c.args.self.now.config c.args.self.now.log c.args.partition c.args.at c.args.call.now) c.args.reply.now ≡ false =
    sym c.agrees.ensures.test ∙ c.if-agrees.false in
    let is = c.expected.ensures c.args.reply.now in
    λ i. if sym other i then None else Some (is i)
