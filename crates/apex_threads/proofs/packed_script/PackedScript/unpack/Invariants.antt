use Rattle.std.proofs.Common.{◌≡◌, ◌≤◌, length, take, vec_len, vec_capacity}
use Rattle.apex_threads.proofs.packed_script.PackedScript.unpack.Given as goal

abbrev pub invariant-loop-index : goal.invariant-loop-index
invariant-loop-index g l = record {
  items : l.calls.items ≡ take l.index l.self;
  count : vec_len l.calls ≡ l.index;
  room : length l.self ≤ vec_capacity l.calls;
}
