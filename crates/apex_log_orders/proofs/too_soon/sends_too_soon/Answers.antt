use Rattle.apex_log_orders.proofs.Common.{◌≡◌, ℕ, [], length, take, Some, Option, true, refl, sym, ap, ◌∙◌, subst, arith, unwrap_or, Destination, History, entries_of, accepted_on, received_on, message_accepted, is_source_of, port_of, at_index, log_in, HasEnd}
use Rattle.apex_log_orders.proofs.EndCounts.{sent_on}
use Rattle.apex_log_orders.proofs.NeverNexts.{soon_send, source_test, accepted_before}
use Rattle.apex_log_orders.proofs.too_soon.sends_too_soon.Goals as goal

pub returns : goal.returns
returns c holds =
    let config = c.args.config.now in
    let logs = c.args.logs.now in
    let walk = c.requires.walk in
    let front = c.args.walk.now.judge.log in
    let p = c.args.p in
    let e = c.args.entry.now in
    let f = c.args.later.now in
    let q = c.args.place.partition in
    let j = c.args.place.index in
    let pair = c.requires.pair in
    let s = c.in-Some.source in
    let source = c.in-Some.ensures in
    let destination = subst (λ (n : ℕ). HasEnd config n q c.in-ReceiveQueuing.other Destination) (sym c.if-source-destination.false) c.in-Some-queuing_end.ensures in
    let end : is_source_of s (port_of config e.partition c.in-SendQueuing.id) ≡ true =
    ap (λ (n : ℕ). is_source_of s (port_of config n c.in-SendQueuing.id)) pair.own ∙ source_test config walk.valid logs c.requires.clears s p c.in-SendQueuing.id source.0 source.1 in
    let sent : message_accepted config s e ≡ Some c.in-SendQueuing.message =
    sent_on config s e c.in-SendQueuing.id c.in-SendQueuing.message c.in-SendQueuing.is (sym c.is_no_error.ensures ∙ c.if-not-is_no_error.false) end in
    let all = walk.all in
    let other = c.requires.other in
    let within = c.requires.partition in
    let count = walk.made.count in
    let there : log_in logs q ≡ c.index-logs-place.result = ap (λ (o : Option History). unwrap_or o []) (at_index logs q c.index-logs-place.result (omega (arith, all, other)) c.index-logs-place.is) in
    let here : log_in logs p ≡ c.index-logs-p.result = ap (λ (o : Option History). unwrap_or o []) (at_index logs p c.index-logs-p.result (omega (arith, all, within)) c.index-logs-p.is) in
    let both : Some c.index.result.now ≡ Some (length (entries_of p front)) =
    sym (at_index c.args.walk.now.made.items p c.index.result.now (omega (arith, count, within)) c.index.ensures) ∙ walk.made.each p within in
    let made : c.index.result.now ≡ length (entries_of p front) = cc in
    let received : c.count_received-received.result ≡ length (received_on config s (take j (log_in logs q))) =
    c.count_received-received.ensures ∙ ap (λ (log : History). length (received_on config s (take j log))) (sym there) in
    let accepted : c.count_accepted-accepted.result ≡ length (accepted_on config s front) =
    c.count_accepted-accepted.ensures
    ∙ (((λ i. length (accepted_on config s (take (made i) c.index-logs-p.result))) ∙ ap (λ (log : History). length (accepted_on config s (take (length (entries_of p front)) log))) (sym here))
    ∙ sym (accepted_before config walk.valid logs c.requires.clears s p c.in-SendQueuing.id source.0 source.1 front walk.begins (length (entries_of p front)) refl)) in
    let few = c.if-received-accepted.false in
    soon_send config walk.valid logs c.requires.clears s p c.in-SendQueuing.id source.0 q c.in-ReceiveQueuing.other destination.0 front walk.begins e pair.next j f pair.here pair.to_come pair.none
    source.1 destination.1 c.in-SendQueuing.message sent c.in-ReceiveQueuing.is pair.found (omega (arith, received, accepted, few))
