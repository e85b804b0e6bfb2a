use Rattle.apex_log_orders.proofs.Common.{◌≡◌, ◌≤◌, length, take, received_on}
use Rattle.apex_log_orders.proofs.ends.count_received.Given as goal

abbrev pub invariant-loop-i : goal.invariant-loop-i
invariant-loop-i l = record {
  count : l.count ≡ length (received_on l.config l.channel (take l.i l.log));
  few : l.count ≤ l.i;
}
