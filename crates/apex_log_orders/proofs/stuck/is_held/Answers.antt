use Rattle.apex_log_orders.proofs.Common.{◌≡◌, sym, ap, ◌∙◌, false≢true, reply_to, IsSound, reply_shown, is_code_not_available, same_reply}
use Rattle.apex_log_orders.proofs.NeverNexts.{held, own_held}
use Rattle.apex_log_orders.proofs.stuck.is_held.Goals as goal

pub returns-then-is_own : goal.returns-then-is_own
returns-then-is_own c holds =
    let config = c.args.config.now in
    let h = c.args.walk.now.judge.log in
    let p = c.args.p in
    let e = c.args.entry.now in
    let walk = c.requires.walk in
    let sound : IsSound config h = record { valid = walk.valid; lawful = walk.begins.lawful } in
    let shown : reply_shown c.args.walk.now.judge.config h p e.at e.call ≡ reply_to config h p e.at e.call =
    ap (λ g. reply_shown g h p e.at e.call) walk.judged ∙ same_reply config h p e.at e.call sound in
    own_held config walk.valid c.args.logs.now c.requires.clears h walk.begins p e c.requires.next
    (sym c.is_own.ensures ∙ c.if-is_own.true)
    (λ reply. false≢true (sym c.if-agrees.false ∙ c.agrees.ensures.exact.1 (reply ∙ sym shown)))

pub returns : goal.returns
returns c holds =
    let config = c.args.config.now in
    let h = c.args.walk.now.judge.log in
    let p = c.args.p in
    let e = c.args.entry.now in
    let walk = c.requires.walk in
    let sound : IsSound config h = record { valid = walk.valid; lawful = walk.begins.lawful } in
    let shown : reply_shown c.args.walk.now.judge.config h p e.at e.call ≡ reply_to config h p e.at e.call =
    ap (λ g. reply_shown g h p e.at e.call) walk.judged ∙ same_reply config h p e.at e.call sound in
    held config walk.valid c.args.logs.now c.requires.clears h walk.begins p e c.requires.next
    (sym c.is_transfer.ensures ∙ c.if-not-is_transfer.false)
    (λ reply. false≢true (sym c.if-agrees.false ∙ c.agrees.ensures.exact.1 (reply ∙ sym shown)))
    (λ none. false≢true (sym (sym c.is_not_available.ensures ∙ c.if-is_not_available.false) ∙ ap is_code_not_available none))
