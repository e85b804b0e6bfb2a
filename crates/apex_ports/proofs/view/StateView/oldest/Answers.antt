use Rattle.apex_ports.proofs.Common.{List, ℕ, ap, ◌∙◌, slice_get}
use Rattle.apex_ports.proofs.Lookups.{channel_at}
use Rattle.apex_ports.proofs.view.StateView.oldest.Goals as goal

pub returns-clause-message : goal.returns-clause-message
returns-clause-message g c =
    let state = channel_at _ _ _ _ c.requires.kept.kept _ _ c.requires.linked c.index.ensures in
    rw c.requires.port (c.waiting.ensures.message ∙ ap (λ (xs : List (List ℕ)). slice_get xs 0) state.waiting)
