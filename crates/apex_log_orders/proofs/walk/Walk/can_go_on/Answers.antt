use Rattle.apex_log_orders.proofs.Common.{◌≡◌, ◌<◌, length, Some, option_copied, sym, ap, ◌∙◌, subst, Entry, reply_to, IsSound, same_reply, reply_shown, next_of}
use Rattle.apex_log_orders.proofs.walk.Walk.can_go_on.Goals as goal

pub returns-then-entry-p : goal.returns-then-entry-p
returns-then-entry-p c =
    let config = c.args.config.now in
    let logs = c.args.logs.now in
    let h = c.args.self.now.judge.log in
    let p = c.args.p in
    let e = c.in-Some.entry.now in
    let walk = c.requires.walk in
    let next : next_of logs h p ≡ Some e = sym c.next.ensures ∙ ap option_copied c.in-Some.is in
    let own : e.partition ≡ p = c.if-entry-p.true in
    let sound : IsSound config h = record { valid = walk.valid; lawful = walk.begins.lawful } in
    let shown : reply_shown c.args.self.now.judge.config h p e.at e.call ≡ reply_to config h e.partition e.at e.call =
    ap (λ g. reply_shown g h p e.at e.call) walk.judged ∙ (same_reply config h p e.at e.call sound ∙ ap (λ q. reply_to config h q e.at e.call) (sym own)) in (
      λ yes. (e, record { next = next; own = own; lawful = (subst (λ q. q < length config.partitions) (sym own) c.requires.partition, c.agrees.ensures.exact.0 yes ∙ shown) }),
      λ can.
          let both : Some e ≡ Some can.0 = sym next ∙ can.1.next in
          let same : e ≡ can.0 = cc in
          let reply : e.reply ≡ reply_to config h e.partition e.at e.call =
          subst (λ (x : Entry). x.reply ≡ reply_to config h x.partition x.at x.call) (sym same) can.1.lawful.1 in
          c.agrees.ensures.exact.1 (reply ∙ sym shown),
    )
