use Rattle.apex_threads.proofs.Common.{◌≡◌, ℕ, ◌<◌, List, length, get_or, Some, slice_get, Call, Moment, Reply}
use Rattle.apex_threads.proofs.comparison.are_complete.Given as goal

abbrev pub invariant-loop-p : goal.invariant-loop-p
invariant-loop-p g l =
    (p : ℕ) → p < l.p → (script : List (Moment × Call)) (own : List Reply) → slice_get l.scripts p ≡ Some script → slice_get l.replies p ≡ Some own
    → (get_or l.counts p 0 ≡ length script) × (get_or l.counts p 0 ≡ length own)
