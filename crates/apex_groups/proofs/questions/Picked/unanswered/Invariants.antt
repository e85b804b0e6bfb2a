use Rattle.apex_groups.proofs.Common.{ℕ, ◌<◌, ◌≡◌, Some, None, slice_get, Has, ArePicked}
use Rattle.apex_groups.proofs.questions.Picked.unanswered.Given as goal

abbrev pub invariant-loop-index : goal.invariant-loop-index
invariant-loop-index l = record {
  picked : ArePicked l.asked l.picked;
  all : (k : ℕ) → k < l.index → slice_get l.answers k ≡ Some None → Has l.picked.indexes.items k;
}
