use Rattle.std.proofs.Common.{List, ℕ, length, ap, ◌∙◌, arith}
use Rattle.apex_judge.proofs.Lookups.{channel_at}
use Rattle.apex_judge.proofs.view.StateView.waiting_count.Goals as goal

pub returns-clause-count : goal.returns-clause-count
returns-clause-count g c =
    let state = channel_at _ _ _ _ c.requires.kept _ c.index.result.now c.requires.linked c.index.ensures in
    rw c.requires.port (c.waiting_count.ensures ∙ ap (λ (xs : List (List ℕ)). length xs) state.waiting)

pub returns-clause-few : goal.returns-clause-few
returns-clause-few g c =
    let state = channel_at _ _ _ _ c.requires.kept _ c.index.result.now c.requires.linked c.index.ensures in
    let few = state.few in
    omega (arith, c.waiting_count.ensures, few)
