use Rattle.apex_board.proofs.Common.{◌≡◌, length, None, EachAt}
use Rattle.apex_board.proofs.samples.new_samples.Given as goal

abbrev pub invariant-loop : goal.invariant-loop
invariant-loop g l = record {
  count : length l.samples.items ≡ l.counter;
  none : EachAt (λ _ sample. sample ≡ None) l.samples.items;
}
