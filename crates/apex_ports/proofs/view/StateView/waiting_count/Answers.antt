use Rattle.std.proofs.Common.{◌∙◌, arith}
use Rattle.apex_ports.proofs.Conserved.{always_conserved}
use Rattle.apex_ports.proofs.Lookups.{channel_at, waiting_count_is, depth_small}
use Rattle.apex_ports.proofs.view.StateView.waiting_count.Goals as goal

pub returns-clause-count : goal.returns-clause-count
returns-clause-count g c =
    let state = channel_at _ _ _ _ c.requires.kept.kept _ _ c.requires.linked c.index.ensures in
    rw c.requires.port (c.waiting_count.ensures ∙ waiting_count_is _ _ _ _ state)

pub returns-clause-few : goal.returns-clause-few
returns-clause-few g c =
    let state = channel_at _ _ _ _ c.requires.kept.kept _ _ c.requires.linked c.index.ensures in
    let small = depth_small c.args.config.now c.args.port.now.channel c.requires.kept.sound.valid in
    let within = (always_conserved c.args.config.now c.args.self.now.history c.args.port.now.channel c.requires.kept.sound).depth in
    let count = waiting_count_is _ _ _ _ state in
    omega (arith, c.waiting_count.ensures)
