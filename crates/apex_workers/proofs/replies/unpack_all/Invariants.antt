use Rattle.std.proofs.Common.{◌≡◌, ◌≤◌, length, take, vec_len, vec_capacity}
use Rattle.apex_workers.proofs.replies.unpack_all.Given as goal

abbrev pub invariant-loop-replies : goal.invariant-loop-replies
invariant-loop-replies g l = record {
  items : l.all.items ≡ take l.replies-index l.packed;
  count : vec_len l.all ≡ l.replies-index;
  room : length l.packed ≤ vec_capacity l.all;
}
