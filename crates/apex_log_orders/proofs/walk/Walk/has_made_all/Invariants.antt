use Rattle.apex_log_orders.proofs.Common.{◌≡◌, ◌<◌, ℕ, length, entries_of, log_in}
use Rattle.apex_log_orders.proofs.walk.Walk.has_made_all.Given as goal

abbrev pub invariant-loop-p : goal.invariant-loop-p
invariant-loop-p l = (q : ℕ) → q < l.p → length (entries_of q l.self.judge.log) ≡ length (log_in l.logs q)
