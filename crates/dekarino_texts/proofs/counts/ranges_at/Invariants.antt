use Rattle.std.proofs.Common.{◌≡◌, ◌<◌, ℕ, Some, length}
use Rattle.std.specs.List.{slice_get}
use Rattle.dekarino_texts.specs.Counts.{counts_after, only}
use Rattle.dekarino_texts.proofs.counts.ranges_at.Given as goal

abbrev pub invariant-loop-c : goal.invariant-loop-c
invariant-loop-c l = record {
  count : length l.all.items ≡ l.c;
  each : (d : ℕ) → d < l.c → slice_get l.all.items d ≡ Some (only (counts_after l.ports.config l.ports.history d));
}
