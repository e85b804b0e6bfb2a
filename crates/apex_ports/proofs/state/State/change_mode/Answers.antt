use Rattle.apex_ports.proofs.Common.{sym, seen}
use Rattle.apex_ports.proofs.Lookups.{partition_at}
use Rattle.apex_ports.proofs.PartitionSteps.{mode_set_keeps}
use Rattle.apex_ports.proofs.RowFacts.{mode_at}
use Rattle.apex_ports.proofs.state.State.change_mode.Goals as goal

pub unreachable-requires : goal.unreachable-requires
unreachable-requires g c =
    let config = c.args.config.now in
    let p = c.args.partition in
    let at = mode_at config (seen config c.args.self.now.history p) p c.args.at c.args.number c.requires.row in
    let some = at.1 in
    let none = c.in_default.is in
    let shown = c.from_number.ensures in
    absurd (cc)

pub returns-clause-kept : goal.returns-clause-kept
returns-clause-kept g c =
    let was = partition_at _ _ _ _ c.requires.current.kept c.args.partition c.index_mut.result.now c.requires.partition c.index_mut.ensures.value in
    mode_set_keeps _ _ _ _ c.args.partition c.args.at c.args.number c.in-Some.mode c.index_mut.result.now c.set_mode.new.self c.requires.current.kept was (sym c.in-Some.ensures) c.set_mode.ensures.mode c.set_mode.ensures.count c.set_mode.ensures.restart c.set_mode.ensures.stay c.set_mode.ensures.last
