use Rattle.std.proofs.Common.{◌≡◌, ◌≤◌, [], length, replicate, vec_capacity}
use Rattle.dekarino_search.proofs.own_logs.no_logs.Given as goal

abbrev pub invariant-loop : goal.invariant-loop
invariant-loop l = record {
  logs : l.logs.items ≡ replicate l.counter [];
  files : length l.files.items ≡ l.counter;
  places : l.count ≤ vec_capacity l.logs;
  more_places : l.count ≤ vec_capacity l.files;
}
