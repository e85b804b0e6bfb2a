use Rattle.std.proofs.Common.{rules, ◌≡◌, ℕ, ◌-◌, ◌≤◌, max, length, sym, ap, ◌∙◌, arith}
use Rattle.std.proofs.lemmas.Result.{on_ok_weaker}
use Rattle.dekarino_drawings.proofs.FollowingLemmas.{follows}
use Rattle.dekarino_drawings.proofs.channel_calls.ChannelCalls.follow.Goals as goal

pub returns : goal.returns
returns c = λ before size small was.
    let sent : c.len.result ≡ length c.args.self.now.sends.items = search rules in
    let waiting : c.saturating_sub-waiting.result ≡ length c.args.self.now.sends.items - c.args.self.now.taken = c.saturating_sub-waiting.ensures ∙ ap (λ (n : ℕ). n - c.args.self.now.taken) sent in
    let few : c.taken_by-more.result ≤ max 1 (length c.args.self.now.sends.items - c.args.self.now.taken) = omega (arith, c.taken_by-more.ensures.few, waiting) in
    on_ok_weaker c.push_send.result
    (λ pushed. follows c.args.config.now before c.args.entry.now c.args.c c.args.index c.args.self.now _ c.taken_by-more.result size small was
    (λ messages is. c.taken_by-more.ensures.count messages (is ∙ sym waiting))
    few
    c.saturating_add-self.ensures
    c.last_write_after-self.ensures
    pushed)
    c.push_send.ensures
