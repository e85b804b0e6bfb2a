use Rattle.apex_orders.proofs.Common.{◌≡◌, ◌+◌, ℕ, Some, slice_get}
use Rattle.apex_orders.proofs.replies.Replies.has.Given as goal

abbrev pub invariant-loop-count : goal.invariant-loop-count
invariant-loop-count l = (k : ℕ) → l.count ≡ k + 1 → slice_get l.self-inside.hashes k ≡ Some l.hash

abbrev pub decreases-loop-count : goal.decreases-loop-count
decreases-loop-count l = l.count
