use Rattle.std.proofs.Common.{◌≡◌, ◌≤◌, length, take, vec_len, vec_capacity}
use Rattle.apex_threads.proofs.packed_script.unpack_all.Given as goal

abbrev pub invariant-loop-calls : goal.invariant-loop-calls
invariant-loop-calls g l = record {
  items : l.all.items ≡ take l.calls-index l.packed;
  count : vec_len l.all ≡ l.calls-index;
  room : length l.packed ≤ vec_capacity l.all;
}
