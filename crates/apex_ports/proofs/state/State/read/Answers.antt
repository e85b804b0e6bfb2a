use Rattle.apex_ports.proofs.Common.{sym, ap, arith, last_reply, seen}
use Rattle.apex_ports.proofs.Lookups.{is_identifier, partition_at}
use Rattle.apex_ports.proofs.PartitionSteps.{read_keeps}
use Rattle.apex_ports.proofs.RowFacts.{read_at}
use Rattle.apex_ports.proofs.state.State.read.Goals as goal

pub set_port-requires-clause-first : goal.set_port-requires-clause-first
set_port-requires-clause-first g c =
    let config = c.args.config.now in
    let p = c.args.partition in
    let found = read_at config (seen config c.args.self.now.history p) p c.args.at c.args.id c.args.id c.args.validity c.requires.row in
    (is_identifier config p c.args.id found.0 found.2.found).first

pub set_port-requires-clause-last : goal.set_port-requires-clause-last
set_port-requires-clause-last g c =
    let config = c.args.config.now in
    let p = c.args.partition in
    let found = read_at config (seen config c.args.self.now.history p) p c.args.at c.args.id c.args.id c.args.validity c.requires.row in
    let was = partition_at _ _ _ _ c.requires.current.kept p c.index_mut.result.now c.requires.partition c.index_mut.ensures.value in
    let ports = was.ports in
    let last = (is_identifier config p c.args.id found.0 found.2.found).last in
    omega (arith, ports, last)

pub returns-clause-kept : goal.returns-clause-kept
returns-clause-kept g c =
    let config = c.args.config.now in
    let p = c.args.partition in
    let found = read_at config (seen config c.args.self.now.history p) p c.args.at c.args.id c.args.id c.args.validity c.requires.row in
    let was = partition_at _ _ _ _ c.requires.current.kept p c.index_mut.result.now c.requires.partition c.index_mut.ensures.value in
    rw (ap (last_reply c.args.validity) found.2.shown)
    (read_keeps _ _ _ _ p c.args.at c.args.id _ c.args.validity _ c.index_mut.result.now c.set_port.new.self c.requires.current.kept was (sym found.2.created) c.set_port.ensures.mode c.set_port.ensures.count c.set_port.ensures.ports)
