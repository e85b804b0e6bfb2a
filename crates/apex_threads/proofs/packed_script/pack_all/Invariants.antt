use Rattle.std.proofs.Common.{◌≡◌, ◌≤◌, length, take, vec_len, vec_capacity}
use Rattle.apex_threads.proofs.packed_script.pack_all.Given as goal

abbrev pub invariant-loop-script : goal.invariant-loop-script
invariant-loop-script g l = record {
  items : l.all.items ≡ take l.script-index l.scripts;
  count : vec_len l.all ≡ l.script-index;
  room : length l.scripts ≤ vec_capacity l.all;
}
