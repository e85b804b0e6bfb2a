use Rattle.std.proofs.Common.{◌∙◌}
use Rattle.apex_judge.proofs.Lookups.{partition_at}
use Rattle.apex_judge.proofs.view.StateView.last_validity.Goals as goal

pub returns : goal.returns
returns g c =
    let state = partition_at _ _ _ _ c.requires.kept c.args.partition c.index.result.now c.requires.partition c.index.ensures in
    c.last_validity.ensures ∙ state.last c.args.id c.requires.identifier
