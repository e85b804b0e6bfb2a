use Rattle.apex_ports.proofs.Common.{◌≡◌, ◌<◌, length, List, ℕ, sym, ap, ◌∙◌, arith, option_copied, Received, oldest_reply, seen, waiting_of, waiting_on, waiting_in}
use Rattle.apex_ports.proofs.ChannelSteps.{received_keeps, oldest_of}
use Rattle.apex_ports.proofs.Conserved.{always_conserved}
use Rattle.apex_ports.proofs.Lookups.{channel_at}
use Rattle.apex_ports.proofs.RowFacts.{received_at, destination_of}
use Rattle.apex_ports.proofs.state.State.receive.Goals as goal

pub unreachable-requires : goal.unreachable-requires
unreachable-requires g c =
    let config = c.args.config.now in
    let h = c.args.self.now.history in
    let p = c.args.partition in
    let s = seen config h p in
    let found = received_at config s p c.args.at c.args.id c.args.id c.requires.row in
    let some = found.1.found in
    let none = sym c.configured_port.ensures.found ∙ ap option_copied c.in_default.is in
    absurd (cc)

pub receive-requires : goal.receive-requires
receive-requires g c =
    let config = c.args.config.now in
    let h = c.args.self.now.history in
    let p = c.args.partition in
    let s = seen config h p in
    let found = received_at config s p c.args.at c.args.id c.args.id c.requires.row in
    let q = c.in-Some.port.now in
    let end = destination_of config p c.args.id found.0 q found.1 c.in-Some.ensures.found in
    let was = channel_at _ _ _ _ c.requires.current.kept q.channel c.index_mut.result.now c.in-Some.ensures.linked c.index_mut.ensures.value in
    let waits : s.waiting c.args.id ≡ waiting_on config q.channel h = ap (waiting_of config h) (sym c.in-Some.ensures.found) in
    let count = ap (λ (xs : List (List ℕ)). length xs) (waits ∙ sym was.waiting) in
    let some = found.2 in
    omega (arith, count, some)

pub returns-clause-kept : goal.returns-clause-kept
returns-clause-kept g c =
    let config = c.args.config.now in
    let h = c.args.self.now.history in
    let p = c.args.partition in
    let s = seen config h p in
    let found = received_at config s p c.args.at c.args.id c.args.id c.requires.row in
    let q = c.in-Some.port.now in
    let end = destination_of config p c.args.id found.0 q found.1 c.in-Some.ensures.found in
    let was = channel_at _ _ _ _ c.requires.current.kept q.channel c.index_mut.result.now c.in-Some.ensures.linked c.index_mut.ensures.value in
    let waits : s.waiting c.args.id ≡ waiting_on config q.channel h = ap (waiting_of config h) (sym c.in-Some.ensures.found) in
    let conserved = always_conserved config h q.channel c.requires.current.sound in
    let count = ap (λ (xs : List (List ℕ)). length xs) (waits ∙ sym was.waiting) in
    let some = found.2 in
    let waiting : 0 < length (waiting_in c.index_mut.result.now) = omega (arith, count, some) in
    let oldest = oldest_of (waiting_in c.index_mut.result.now) waiting in
    let received : oldest_reply (s.waiting c.args.id) ≡ Received oldest.0 = ap oldest_reply (waits ∙ sym was.waiting) ∙ oldest.2 in
    rw received
    (received_keeps _ _ _ _ p c.args.at c.args.id q.channel oldest.0 c.index_mut.result.now c.receive.new.self c.requires.current.kept conserved end was oldest.1
    c.receive.ensures.waiting c.receive.ensures.depth c.receive.ensures.size c.receive.ensures.accepted c.receive.ensures.received c.receive.ensures.cleared c.receive.ensures.sample c.receive.ensures.kind)
