use Rattle.std.specs.Result.{is_err}
use Rattle.apex_orders.proofs.Common.{◌≡◌, ◌<◌, ℕ, false, slice_get, Some, Worker}
use Rattle.apex_orders.proofs.runs.have_run.Given as goal

abbrev pub invariant-loop-k : goal.invariant-loop-k
invariant-loop-k l = (j : ℕ) (worker : Worker) → j < l.k → slice_get l.workers j ≡ Some worker → is_err worker.result ≡ false
