use Rattle.std.specs.Result.{is_err}
use Rattle.apex_orders.proofs.Common.{◌≡◌, ◌<◌, ℕ, false, slice_get, Some}
use Rattle.apex_orders.specs.declared.marks.Marks.{Marks}
use Rattle.apex_orders.proofs.marks.mark_all.Given as goal

abbrev pub invariant-loop-k : goal.invariant-loop-k
invariant-loop-k g l = (j : ℕ) (one : Marks) → j < l.k → slice_get l.marks j ≡ Some one → is_err one.result ≡ false
