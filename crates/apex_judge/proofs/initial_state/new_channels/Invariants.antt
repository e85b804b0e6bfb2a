use Rattle.apex_judge.proofs.Common.{◌≡◌, length, EachAt, IsChannelShown, opening}
use Rattle.apex_judge.proofs.initial_state.new_channels.Given as goal

abbrev pub invariant-loop : goal.invariant-loop
invariant-loop g l = record {
  count : length l.channels.items ≡ l.counter;
  shown : EachAt (IsChannelShown opening) l.channels.items;
}
