use Rattle.std.proofs.Common.{◌∙◌}
use Rattle.apex_ports.proofs.Lookups.{partition_at}
use Rattle.apex_ports.proofs.view.StateView.is_created.Goals as goal

pub returns : goal.returns
returns g c =
    let state = partition_at _ _ _ _ c.requires.kept.kept c.args.partition c.index.result.now c.requires.partition c.index.ensures in
    c.is_created.ensures ∙ state.created c.args.id
