use Rattle.apex_ports.proofs.Common.{◌≡◌, [], length, EachAt, IsChannelKept}
use Rattle.apex_ports.proofs.initial_state.new_channels.Given as goal

abbrev pub invariant-loop-c : goal.invariant-loop-c
invariant-loop-c g l = record {
  count : length l.channels.items ≡ l.c;
  kept : EachAt (IsChannelKept l.config []) l.channels.items;
}
