use Rattle.std.proofs.Common.{◌≡◌, ◌<◌, ◌≤◌, length}
use Rattle.dekarino_texts.proofs.JudgedLineLemmas.{AreRead}
use Rattle.dekarino_texts.proofs.judged_lines.judge_each.Given as goal

abbrev pub invariant-loop-number : goal.invariant-loop-number
invariant-loop-number g l = record {
  read : AreRead g.S.DepartureSink.takes l.fn.judge.config l.reading l.most l.ids l.judge.log l.counts l.number (g.L.LineSource.left l.fn.lines) (g.L.LineSource.left l.lines) l.fn.sink l.sink;
  known : length l.ids.known ≡ length l.fn.judge.config.partitions;
  config : l.judge.config ≡ l.fn.judge.config;
  calls : l.counts.calls < l.number;
  fewer : l.counts.departures ≤ l.counts.calls;
}
