use Rattle.apex_threads.proofs.Common.{◌≡◌, [], length, IsPublished}
use Rattle.apex_ports.specs.Kept.{EachAt}
use Rattle.apex_threads.proofs.publishing.new_publishers.Given as goal

abbrev pub invariant-loop-c : goal.invariant-loop-c
invariant-loop-c g l = record {
  count : length l.publishers ≡ l.c;
  each : EachAt (IsPublished l.config []) l.publishers;
}
