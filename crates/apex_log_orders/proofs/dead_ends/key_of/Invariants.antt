use Rattle.apex_log_orders.proofs.Common.{◌≡◌, ◌<◌, ◌+◌, ℕ, length, Some, slice_get, waiting_on, entries_of}
use Rattle.apex_log_orders.proofs.dead_ends.key_of.Given as goal

abbrev pub invariant-loop-channel : goal.invariant-loop-channel
invariant-loop-channel l = record {
  count : length l.key.items ≡ length l.config.partitions + l.channel;
  made : (p : ℕ) → p < length l.config.partitions → slice_get l.key.items p ≡ Some (length (entries_of p l.walk.judge.log));
  waiting : (c : ℕ) → c < l.channel → slice_get l.key.items (length l.config.partitions + c) ≡ Some (length (waiting_on l.config c l.walk.judge.log));
}
