use Rattle.dekarino_drawings.proofs.Common.{◌≡◌, [], length, IsFollowed}
use Rattle.apex_ports.specs.Kept.{EachAt}
use Rattle.dekarino_drawings.proofs.channels.new_channels.Given as goal

abbrev pub invariant-loop : goal.invariant-loop
invariant-loop l = record {
  count : length l.channels.items ≡ l.counter;
  each : EachAt (IsFollowed l.config []) l.channels.items;
}
