use Rattle.apex_judge.proofs.Common.{◌≡◌, ◌++◌, take, drop, departures_after, departures_of}
use Rattle.apex_judge.proofs.departures.judge_log.Given as goal

abbrev pub invariant-loop-index : goal.invariant-loop-index
invariant-loop-index g l = record {
  config : l.judge.config ≡ l.fn.config;
  log : l.judge.log ≡ take l.index l.log;
  found : l.found.items ++ departures_after l.fn.config (take l.index l.log) (drop l.index l.log) ≡ departures_of l.fn.config l.log;
}
