use Rattle.std.proofs.Common.{Some, ap, sym, ◌∙◌}
use Rattle.apex_judge.proofs.Lookups.{channel_at}
use Rattle.apex_judge.proofs.view.StateView.sample.Goals as goal

pub returns-in-Some-clause-sample : goal.returns-in-Some-clause-sample
returns-in-Some-clause-sample g c =
    let state = channel_at _ _ _ _ c.requires.kept _ c.index.result.now c.requires.linked c.index.ensures in
    rw c.requires.port (sym state.sample ∙ c.in-Some.is ∙ ap Some (sym c.of.ensures.sample))

pub returns-in-None-clause-sample : goal.returns-in-None-clause-sample
returns-in-None-clause-sample g c =
    let state = channel_at _ _ _ _ c.requires.kept _ c.index.result.now c.requires.linked c.index.ensures in
    rw c.requires.port (sym state.sample ∙ c.in-None.is)
