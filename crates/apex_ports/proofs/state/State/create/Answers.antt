use Rattle.apex_ports.proofs.Common.{arith, call_by, seen}
use Rattle.apex_ports.proofs.Lookups.{partition_at}
use Rattle.apex_ports.proofs.PartitionSteps.{created_keeps}
use Rattle.apex_ports.proofs.RowFacts.{created_at}
use Rattle.apex_ports.proofs.state.State.create.Goals as goal

pub set_port-requires-clause-first : goal.set_port-requires-clause-first
set_port-requires-clause-first g c =
    let made = created_at c.args.config.now (seen c.args.config.now c.args.self.now.history c.args.partition) c.args.partition c.args.at (call_by c.args.call) c.args.id c.requires.row in
    made.identifier.first

pub set_port-requires-clause-last : goal.set_port-requires-clause-last
set_port-requires-clause-last g c =
    let made = created_at c.args.config.now (seen c.args.config.now c.args.self.now.history c.args.partition) c.args.partition c.args.at (call_by c.args.call) c.args.id c.requires.row in
    let was = partition_at _ _ _ _ c.requires.current.kept c.args.partition c.index_mut.result.now c.requires.partition c.index_mut.ensures.value in
    let ports = was.ports in
    let last = made.identifier.last in
    omega (arith, ports, last)

pub returns-clause-kept : goal.returns-clause-kept
returns-clause-kept g c =
    let made = created_at c.args.config.now (seen c.args.config.now c.args.self.now.history c.args.partition) c.args.partition c.args.at (call_by c.args.call) c.args.id c.requires.row in
    let was = partition_at _ _ _ _ c.requires.current.kept c.args.partition c.index_mut.result.now c.requires.partition c.index_mut.ensures.value in
    created_keeps _ _ _ _ c.args.partition c.args.at _ c.args.id c.index_mut.result.now c.set_port.new.self made.creates made.no_mode made.no_read made.elsewhere c.requires.current.kept was c.set_port.ensures.mode c.set_port.ensures.count c.set_port.ensures.ports
