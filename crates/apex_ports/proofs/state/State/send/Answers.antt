use Rattle.apex_ports.proofs.Common.{◌≡◌, ◌<◌, ◌≤◌, Some, length, refl, sym, ap, ◌∙◌, subst, arith, option_copied, Code, NoError, Port, message_size, size_of, depth_of, reply_of, seen, nat_tests, waiting_on}
use Rattle.apex_ports.proofs.ChannelSteps.{sent_keeps}
use Rattle.apex_ports.proofs.Conserved.{always_conserved, send_free}
use Rattle.apex_ports.proofs.Lookups.{channel_at, waiting_count_is}
use Rattle.apex_ports.proofs.RowFacts.{sent_at, source_of}
use Rattle.apex_ports.proofs.state.State.send.Goals as goal

pub unreachable-requires : goal.unreachable-requires
unreachable-requires g c =
    let config = c.args.config.now in
    let h = c.args.self.now.history in
    let p = c.args.partition in
    let at = sent_at config (seen config h p) p c.args.at c.args.id c.args.message.now c.requires.row in
    let some = at.1.found in
    let none = sym c.configured_port.ensures.found ∙ ap option_copied c.in_default.is in
    absurd (cc)

pub send-requires-clause-room : goal.send-requires-clause-room
send-requires-clause-room g c =
    let config = c.args.config.now in
    let h = c.args.self.now.history in
    let p = c.args.partition in
    let s = seen config h p in
    let q = c.in-Some.port.now in
    let at = sent_at config s p c.args.at c.args.id c.args.message.now c.requires.row in
    let end = source_of config p c.args.id at.0 q at.1 c.in-Some.ensures.found in
    let was = channel_at _ _ _ _ c.requires.current.kept q.channel c.index_mut.result.now c.in-Some.ensures.linked c.index_mut.ensures.value in
    let conserved = always_conserved config h q.channel c.requires.current.sound in
    let free = send_free config h p c.args.at c.args.id c.args.message.now (Code NoError) q.channel (ap (reply_of config s p) (sym c.requires.row)) refl end in
    let within = conserved.depth in
    let less : length (waiting_on config q.channel h) < depth_of config q.channel = grind (arith, nat_tests) in
    omega (arith, waiting_count_is _ _ _ _ was, was.depth, less)

pub send-requires-clause-short : goal.send-requires-clause-short
send-requires-clause-short g c =
    let config = c.args.config.now in
    let h = c.args.self.now.history in
    let p = c.args.partition in
    let s = seen config h p in
    let q = c.in-Some.port.now in
    let at = sent_at config s p c.args.at c.args.id c.args.message.now c.requires.row in
    let same : at.0 ≡ q = let both : Some at.0 ≡ Some q = sym at.1.found ∙ sym c.in-Some.ensures.found in cc in
    let end = source_of config p c.args.id at.0 q at.1 c.in-Some.ensures.found in
    let was = channel_at _ _ _ _ c.requires.current.kept q.channel c.index_mut.result.now c.in-Some.ensures.linked c.index_mut.ensures.value in
    let conserved = always_conserved config h q.channel c.requires.current.sound in
    let free = send_free config h p c.args.at c.args.id c.args.message.now (Code NoError) q.channel (ap (reply_of config s p) (sym c.requires.row)) refl end in
    let within = conserved.depth in
    let less : length (waiting_on config q.channel h) < depth_of config q.channel = grind (arith, nat_tests) in
    let size : message_size c.index_mut.result.now ≡ size_of config q = was.size in
    let short : length c.args.message.now ≤ size_of config q = subst (λ (x : Port). length c.args.message.now ≤ size_of config x) same at.2 in
    omega (arith, size, short)

pub returns-clause-kept : goal.returns-clause-kept
returns-clause-kept g c =
    let config = c.args.config.now in
    let h = c.args.self.now.history in
    let p = c.args.partition in
    let s = seen config h p in
    let q = c.in-Some.port.now in
    let at = sent_at config s p c.args.at c.args.id c.args.message.now c.requires.row in
    let end = source_of config p c.args.id at.0 q at.1 c.in-Some.ensures.found in
    let was = channel_at _ _ _ _ c.requires.current.kept q.channel c.index_mut.result.now c.in-Some.ensures.linked c.index_mut.ensures.value in
    let conserved = always_conserved config h q.channel c.requires.current.sound in
    sent_keeps _ _ _ _ p c.args.at c.args.id q.channel _ c.index_mut.result.now c.send.new.self c.requires.current.kept conserved end was
    c.send.ensures.waiting c.send.ensures.depth c.send.ensures.size c.send.ensures.accepted c.send.ensures.received c.send.ensures.cleared c.send.ensures.sample c.send.ensures.kind
