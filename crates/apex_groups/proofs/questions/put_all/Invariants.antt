use Rattle.std.proofs.Common.{vec_len}
use Rattle.apex_groups.proofs.Common.{◌≡◌, ◌≤◌, ℕ, length, Some, None, slice_get, ArePut, Found}
use Rattle.apex_groups.proofs.questions.put_all.Given as goal

abbrev pub invariant-loop-one : goal.invariant-loop-one
invariant-loop-one l = record {
  few : length l.found.items ≤ length l.indexes;
  rest : (j : ℕ) (x : Found) → slice_get l.found.items j ≡ Some x → slice_get l.fn.found.items j ≡ Some x;
  put : ArePut (λ one answer. one ≡ answer) l.indexes l.fn.found.items l.fn.answers l.answers;
  missing : (k : ℕ) → slice_get l.answers k ≡ Some None
      → (slice_get l.fn.answers k ≡ Some None) × ((j : ℕ) → length l.found.items ≤ j → ¬ (slice_get l.indexes j ≡ Some k));
}

abbrev pub decreases-loop-one : goal.decreases-loop-one
decreases-loop-one l = vec_len l.found
