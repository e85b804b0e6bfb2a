use Rattle.apex_judge.proofs.Common.{◌≡◌, ◌<◌, ℕ, Some, length, slice_get, Entry}
use Rattle.apex_judge.proofs.departures.has_partitions.Given as goal

abbrev pub invariant-loop-entry : goal.invariant-loop-entry
invariant-loop-entry l = (k : ℕ) (entry : Entry) → k < l.entry-index → slice_get l.log k ≡ Some entry → entry.partition < length l.config.partitions
