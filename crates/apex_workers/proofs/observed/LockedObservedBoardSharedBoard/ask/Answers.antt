use Rattle.std.proofs.Common.{ap, sym, ◌∙◌, filter_map}
use Rattle.apex_workers.proofs.observed.LockedObservedBoardSharedBoard.ask.Goals as goal

-- the call changes no channel of the board, so its observers are still those of its channels
pub invariant_of-behind-guard : goal.invariant_of-behind-guard
invariant_of-behind-guard g c = c.behind-guard.invariant ∙ ap (filter_map (λ book. book)) (sym c.ask_lent-answer.ensures.channels)
