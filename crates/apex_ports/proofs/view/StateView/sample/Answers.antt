use Rattle.apex_ports.proofs.Common.{Option, subst, Sample, IsSampleBy}
use Rattle.apex_ports.proofs.Lookups.{channel_at}
use Rattle.apex_ports.proofs.view.StateView.sample.Goals as goal

pub returns-clause-sample : goal.returns-clause-sample
returns-clause-sample g c =
    let state = channel_at _ _ _ _ c.requires.kept.kept _ _ c.requires.linked c.index.ensures in
    rw c.requires.port (subst (λ (held : Option Sample). IsSampleBy held c.sample.result) state.sample c.sample.ensures.sample)
