use Rattle.std.proofs.Common.{◌≡◌, ℕ, Some, drop, length}
use Rattle.std.specs.List.{slice_get}
use Rattle.dekarino_texts.specs.Counts.{widened_by, ranges_over}
use Rattle.dekarino_texts.specs.declared.counts.Ranges.{Ranges}
use Rattle.dekarino_texts.proofs.counts.ranges_of.Given as goal

abbrev pub invariant-loop-order : goal.invariant-loop-order
invariant-loop-order l = record {
  config : l.replayer.config ≡ l.config;
  count : length l.all.items ≡ length l.config.channels;
  each : (c : ℕ) (ranges : Ranges) → slice_get l.all.items c ≡ Some ranges
      → widened_by l.config l.scripts c ranges (drop l.order-index l.rest) ≡ ranges_over l.config l.scripts l.orders c;
}
