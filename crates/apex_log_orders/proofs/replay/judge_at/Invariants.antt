use Rattle.apex_log_orders.proofs.Common.{◌≡◌, take, entries_at}
use Rattle.apex_log_orders.proofs.replay.judge_at.Given as goal

abbrev pub invariant-loop-place : goal.invariant-loop-place
invariant-loop-place l = record {
  config : l.judge.config ≡ l.config;
  log : l.judge.log ≡ entries_at l.logs (take l.place-index l.places);
}
