use Rattle.std.proofs.Common.{◌≡◌, ◌≤◌, [], replicate, vec_capacity}
use Rattle.apex_files.proofs.named_scripts.empty_scripts.Given as goal

abbrev pub invariant-loop : goal.invariant-loop
invariant-loop l = record {
  empty : l.scripts.items ≡ replicate l.counter [];
  places : l.count ≤ vec_capacity l.scripts;
}
