use Rattle.std.proofs.Common.{◌≡◌, ◌≤◌, length, take, vec_len, vec_capacity}
use Rattle.apex_workers.proofs.replies.unpack.Given as goal

abbrev pub invariant-loop-index : goal.invariant-loop-index
invariant-loop-index g l = record {
  items : l.replies.items ≡ take l.index l.packed;
  count : vec_len l.replies ≡ l.index;
  room : length l.packed ≤ vec_capacity l.replies;
}
