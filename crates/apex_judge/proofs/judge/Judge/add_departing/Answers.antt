use Rattle.apex_judge.proofs.Common.{◌≡◌, sym, ap, ◌∙◌, subst, Reply, Expected, JudgeView, agrees, reply_shown}
use Rattle.apex_judge.proofs.judge.Judge.add_departing.Goals as goal

pub add_departing-requires-clause-standard : goal.add_departing-requires-clause-standard
add_departing-requires-clause-standard g c =
    let is = ap (λ (one : Expected). one.reply) (c.expected-expected.ensures c.args.reply.now) in
    subst (λ (v : JudgeView). c.expected-expected.result.reply ≡ reply_shown v.config v.log c.args.partition c.args.at c.args.call.now) (sym c.self.view_is) is

pub add_departing-requires-clause-departs : goal.add_departing-requires-clause-departs
add_departing-requires-clause-departs g c =
    let is = ap (λ (one : Expected). one.reply) (c.expected-expected.ensures c.args.reply.now) in
    ap (λ (reply : Reply). agrees reply c.args.reply.now) is ∙ c.requires.departs

pub returns-clause-expected : goal.returns-clause-expected
returns-clause-expected g c = c.expected-expected.ensures c.args.reply.now
