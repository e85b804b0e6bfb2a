use Rattle.apex_log_orders.proofs.Common.{◌≡◌, ℕ, [], length, take, Some, Option, true, refl, sym, ap, ◌∙◌, subst, arith, unwrap_or, Destination, History, entries_of, accepted_on, received_on, message_received, is_destination_of, depth_of, depth_in, port_of, at_index, log_in, HasEnd}
use Rattle.apex_log_orders.proofs.EndCounts.{received_from}
use Rattle.apex_log_orders.proofs.NeverNexts.{soon_receive, destination_test, received_before}
use Rattle.apex_log_orders.proofs.too_soon.receives_too_soon.Goals as goal

pub returns : goal.returns
returns c holds =
    let config = c.args.config.now in
    let logs = c.args.logs.now in
    let walk = c.requires.walk in
    let front = c.args.walk.now.judge.log in
    let p = c.args.p in
    let e = c.args.entry.now in
    let f = c.args.later.now in
    let q = c.args.place.partition in
    let j = c.args.place.index in
    let pair = c.requires.pair in
    let s = c.in-Some-queuing_end.source in
    let source = c.in-Some-queuing_end.ensures in
    let id = c.in-ReceiveQueuing.id in
    let destination = subst (λ (n : ℕ). HasEnd config n p id Destination) (sym c.if-source-destination.false) c.in-Some.ensures in
    let end : is_destination_of s (port_of config e.partition id) ≡ true =
    ap (λ (n : ℕ). is_destination_of s (port_of config n id)) pair.own ∙ destination_test config walk.valid logs c.requires.clears s p id destination.0 destination.1 in
    let m = c.in-Received.field-0 in
    let shown : message_received config s e ≡ Some m = received_from config s e id m c.in-ReceiveQueuing.is c.in-Received.is end in
    let all = walk.all in
    let other = c.requires.other in
    let within = c.requires.partition in
    let count = walk.made.count in
    let there : log_in logs q ≡ c.index-logs-place.result = ap (λ (o : Option History). unwrap_or o []) (at_index logs q c.index-logs-place.result (omega (arith, all, other)) c.index-logs-place.is) in
    let here : log_in logs p ≡ c.index-logs-p.result = ap (λ (o : Option History). unwrap_or o []) (at_index logs p c.index-logs-p.result (omega (arith, all, within)) c.index-logs-p.is) in
    let both : Some c.index.result.now ≡ Some (length (entries_of p front)) =
    sym (at_index c.args.walk.now.made.items p c.index.result.now (omega (arith, count, within)) c.index.ensures) ∙ walk.made.each p within in
    let made : c.index.result.now ≡ length (entries_of p front) = cc in
    let accepted : c.count_accepted-accepted.result ≡ length (accepted_on config s (take j (log_in logs q))) =
    c.count_accepted-accepted.ensures ∙ ap (λ (log : History). length (accepted_on config s (take j log))) (sym there) in
    let received : c.count_received-received.result ≡ length (received_on config s front) =
    c.count_received-received.ensures
    ∙ (((λ i. length (received_on config s (take (made i) c.index-logs-p.result))) ∙ ap (λ (log : History). length (received_on config s (take (length (entries_of p front)) log))) (sym here))
    ∙ sym (received_before config walk.valid logs c.requires.clears s p id destination.0 destination.1 front walk.begins (length (entries_of p front)) refl)) in
    let depth : depth_of config s ≡ c.depth-depth.result = ap depth_in c.channel.ensures.found ∙ sym c.depth-depth.ensures in
    let less = c.saturating_sub.ensures in
    let few = c.if-saturating_sub-received.false in
    soon_receive config walk.valid logs c.requires.clears s p id destination.0 q c.in-SendQueuing.other source.0 front walk.begins e pair.next j f pair.here pair.to_come pair.none
    destination.1 source.1 m shown c.in-SendQueuing.message c.in-SendQueuing.is pair.found (omega (arith, received, accepted, depth, less, few))
