use Rattle.apex_log_orders.proofs.Common.{◌≡◌, ◌≤◌, length, take, accepted_on}
use Rattle.apex_log_orders.proofs.ends.count_accepted.Given as goal

abbrev pub invariant-loop-i : goal.invariant-loop-i
invariant-loop-i l = record {
  count : l.count ≡ length (accepted_on l.config l.channel (take l.i l.log));
  few : l.count ≤ l.i;
}
