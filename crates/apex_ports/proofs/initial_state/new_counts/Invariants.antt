use Rattle.apex_ports.proofs.Common.{◌≡◌, length, EachAt}
use Rattle.apex_ports.proofs.initial_state.new_counts.Given as goal

abbrev pub invariant-loop : goal.invariant-loop
invariant-loop g l = record {
  count : length l.calls.items ≡ l.counter;
  none : EachAt (λ _ count. count ≡ 0) l.calls.items;
}
