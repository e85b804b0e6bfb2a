use Rattle.apex_ports.proofs.Common.{sym, ap, ◌∙◌, option_copied, seen}
use Rattle.apex_ports.proofs.ChannelSteps.{cleared_keeps}
use Rattle.apex_ports.proofs.Conserved.{always_conserved}
use Rattle.apex_ports.proofs.Lookups.{channel_at}
use Rattle.apex_ports.proofs.RowFacts.{cleared_at, destination_of}
use Rattle.apex_ports.proofs.state.State.clear.Goals as goal

pub unreachable-requires : goal.unreachable-requires
unreachable-requires g c =
    let config = c.args.config.now in
    let p = c.args.partition in
    let at = cleared_at config (seen config c.args.self.now.history p) p c.args.at c.args.id c.requires.row in
    let some = at.1.found in
    let none = sym c.configured_port.ensures.found ∙ ap option_copied c.in_default.is in
    absurd (cc)

pub returns-clause-kept : goal.returns-clause-kept
returns-clause-kept g c =
    let config = c.args.config.now in
    let h = c.args.self.now.history in
    let p = c.args.partition in
    let s = seen config h p in
    let q = c.in-Some.port.now in
    let at = cleared_at config s p c.args.at c.args.id c.requires.row in
    let end = destination_of config p c.args.id at.0 q at.1 c.in-Some.ensures.found in
    let was = channel_at _ _ _ _ c.requires.current.kept q.channel c.index_mut.result.now c.in-Some.ensures.linked c.index_mut.ensures.value in
    let conserved = always_conserved config h q.channel c.requires.current.sound in
    cleared_keeps _ _ _ _ p c.args.at c.args.id q.channel c.index_mut.result.now c.clear.new.self c.requires.current.kept conserved end was
    c.clear.ensures.waiting c.clear.ensures.depth c.clear.ensures.size c.clear.ensures.accepted c.clear.ensures.received c.clear.ensures.cleared c.clear.ensures.sample c.clear.ensures.kind
