use Rattle.apex_threads.proofs.Common.{◌≡◌, ◌≤◌, length, vec_len, vec_capacity, AreReady}
use Rattle.apex_threads.proofs.run.lists_for.Given as goal

abbrev pub invariant-loop-script : goal.invariant-loop-script
invariant-loop-script g l = record {
  ready : AreReady l.scripts l.lists.items;
  count : vec_len l.lists ≡ l.script-index;
  room : length l.scripts ≤ vec_capacity l.lists;
}
