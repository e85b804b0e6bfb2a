use Rattle.apex_orders.proofs.Common.{ℕ, ◌<◌, length, IsSamePartition, IsSameChannel}
use Rattle.apex_orders.proofs.same_state.is_same_state.Given as goal

abbrev pub invariant-loop-p : goal.invariant-loop-p
invariant-loop-p g l = (p : ℕ) → p < l.p → IsSamePartition l.a.config l.a.history l.b.history p

abbrev pub invariant-loop-c : goal.invariant-loop-c
invariant-loop-c g l = record {
  partitions : (p : ℕ) → p < length l.a.config.partitions → IsSamePartition l.a.config l.a.history l.b.history p;
  channels : (c : ℕ) → c < l.c → IsSameChannel l.a.config l.a.history l.b.history c;
}
