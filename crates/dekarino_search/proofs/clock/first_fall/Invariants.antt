use Rattle.std.proofs.Common.{◌≡◌, ◌+◌, ◌<◌, ◌≤◌, ℕ, slice_get, Some}
use Rattle.apex_types.specs.declared.call.Call.{Call}
use Rattle.apex_types.specs.declared.moment.Moment.{Moment}
use Rattle.dekarino_search.proofs.clock.first_fall.Given as goal

abbrev pub invariant-loop-k : goal.invariant-loop-k
invariant-loop-k l =
    (j : ℕ) (one next : Moment × Call) → j + 1 < l.k → slice_get l.script j ≡ Some one → slice_get l.script (j + 1) ≡ Some next → one.0.0 ≤ next.0.0
