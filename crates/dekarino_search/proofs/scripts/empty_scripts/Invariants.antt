use Rattle.std.proofs.Common.{◌≡◌, ◌≤◌, [], length, replicate, vec_capacity}
use Rattle.dekarino_search.proofs.scripts.empty_scripts.Given as goal

abbrev pub invariant-loop : goal.invariant-loop
invariant-loop l = record {
  scripts : l.scripts.items ≡ replicate l.counter [];
  lines : length l.lines.items ≡ l.counter;
  places : l.count ≤ vec_capacity l.scripts;
  more_places : l.count ≤ vec_capacity l.lines;
}
