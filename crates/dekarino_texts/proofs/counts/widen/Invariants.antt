use Rattle.std.proofs.Common.{◌≡◌, ◌<◌, ◌≤◌, ℕ, Some, length}
use Rattle.std.specs.List.{slice_get}
use Rattle.dekarino_texts.specs.Counts.{counts_after, widened}
use Rattle.dekarino_texts.specs.declared.counts.Ranges.{Ranges}
use Rattle.dekarino_texts.proofs.counts.widen.Given as goal

abbrev pub invariant-loop-c : goal.invariant-loop-c
invariant-loop-c l = record {
  count : length l.all.items ≡ length l.fn.all.items;
  done : (d : ℕ) (ranges : Ranges) → d < l.c → slice_get l.fn.all.items d ≡ Some ranges
      → slice_get l.all.items d ≡ Some (widened ranges (counts_after l.ports.config l.ports.history d));
  rest : (d : ℕ) → l.c ≤ d → slice_get l.all.items d ≡ slice_get l.fn.all.items d;
}
