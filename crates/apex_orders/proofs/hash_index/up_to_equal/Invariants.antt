use Rattle.apex_orders.proofs.Common.{◌≡◌, ◌<◌, ◌≤◌, ◌+◌, ℕ, Some, slice_get, bucket_of}
use Rattle.apex_orders.proofs.hash_index.up_to_equal.Given as goal

abbrev pub invariant-loop-at : goal.invariant-loop-at
invariant-loop-at l = record {
  within : l.at ≤ l.end;
  own : (k other : ℕ) → l.at ≡ k + 1 → slice_get l.hashes k ≡ Some other → bucket_of other l.buckets ≡ bucket_of l.hash l.buckets;
  rest : (k : ℕ) → l.at ≤ k → k < l.end → slice_get l.hashes k ≡ Some l.hash → ⊥;
}

abbrev pub decreases-loop-at : goal.decreases-loop-at
decreases-loop-at l = l.at
