use Rattle.dekarino_texts.proofs.Common.{◌≡◌, ◌+◌, [], length, refl, ap, ◌∙◌, rules, arith, length-replicate, instead_of, entry_in_ours, polled_entry, max_wait_of, DepartureCounts}
use Rattle.apex_logs.specs.declared.line_source.LogStep.TheVariants as steps
use Rattle.apex_logs.specs.LineSource.{IsFaultyStep, IsStep}
use Rattle.apex_logs.specs.TimedCall.{logged_request_at}
use Rattle.dekarino_texts.proofs.DepartureLemmas.{one_call_more, as_many_at_most}
use Rattle.dekarino_texts.proofs.JudgedLineLemmas.{AreRead, begins, at_end, at_most, at_calls_end, known_first, stops_at, passes, goes_on}
use Rattle.dekarino_texts.proofs.judged_lines.judge_each.Goals as goal

pub loop-number-init : goal.loop-number-init
loop-number-init g c =
    let config = c.args.judge.now.config in
    record {
      read = begins g.S.DepartureSink.takes config c.args.reading c.args.most c.args.ids.now c.args.judge.now.log (g.L.LineSource.left c.args.lines.now) c.args.sink.now c.requires.fresh c.requires.none_known;
      known = rw c.requires.none_known (length-replicate (length config.partitions) []);
      config = refl;
      calls = omega arith;
      fewer = omega arith;
    }

pub returns-in-Ok-NoLine-clause-judged : goal.returns-in-Ok-NoLine-clause-judged
returns-in-Ok-NoLine-clause-judged g c =
    let l = c.loop-number in
    at_end g.S.DepartureSink.takes c.args.judge.now.config c.args.reading c.args.most l.ids l.judge.log l.counts l.number (g.L.LineSource.left c.args.lines.now) (g.L.LineSource.left l.lines) c.args.sink.now l.sink l.invariant.read
    (rw c.in-Ok-NoLine.field-0-is at c.in-Ok-NoLine.ensures.exact)

pub returns-in-Ok-CallsEnd-clause-judged : goal.returns-in-Ok-CallsEnd-clause-judged
returns-in-Ok-CallsEnd-clause-judged g c =
    let l = c.loop-number in
    let line = c.next_step.new.line.items in
    let left = g.L.LineSource.left in
    let step : IsStep (logged_request_at c.config.result.now) line c.next_step.new.entry steps.CallsEnd (left l.lines) (left c.next_step.new.lines) = rw c.in-Ok-CallsEnd.field-0-is at c.in-Ok-CallsEnd.ensures.exact in
    at_calls_end g.S.DepartureSink.takes c.args.judge.now.config c.args.reading c.args.most l.ids l.judge.log l.counts l.number (left c.args.lines.now) (left l.lines) c.args.sink.now l.sink l.invariant.read
    line (left c.next_step.new.lines) step.0 step.1

pub returns-in-Err-clause-stopped : goal.returns-in-Err-clause-stopped
returns-in-Err-clause-stopped g c =
    let l = c.loop-number in
    let left = g.L.LineSource.left in
    let step : IsFaultyStep (logged_request_at c.args.judge.now.config) c.next_step.new.line.items c.in-Err.error (left l.lines) (left c.next_step.new.lines) = rw (c.config.ensures ∙ l.invariant.config) at c.in-Err.ensures.faulty in
    rw c.stopped_at.ensures
    (stops_at g.S.DepartureSink.takes c.args.judge.now.config c.args.reading c.args.most l.ids l.judge.log l.counts l.number (left c.args.lines.now) (left l.lines) c.args.sink.now l.sink l.invariant.read c.next_step.new.line.items (left c.next_step.new.lines) c.in-Err.error step)

pub returns-clause-stopped : goal.returns-clause-stopped
returns-clause-stopped g c =
    let l = c.loop-number in
    known_first g.S.DepartureSink.takes c.args.judge.now.config c.args.reading c.args.most l.ids l.judge.log l.counts l.number (g.L.LineSource.left c.args.lines.now) (g.L.LineSource.left l.lines) c.args.sink.now l.sink l.invariant.read

pub loop-number-preserved-in-Ok-NoEntry : goal.loop-number-preserved-in-Ok-NoEntry
loop-number-preserved-in-Ok-NoEntry g c =
    let l = c.loop-number in
    let left = g.L.LineSource.left in
    let line = c.next_step.new.line.items in
    let step : IsStep (logged_request_at c.args.judge.now.config) line c.next_step.new.entry steps.NoEntry (left l.lines) (left c.next_step.new.lines) = rw (c.config.ensures ∙ l.invariant.config, c.in-Ok-NoEntry.field-0-is) at c.in-Ok-NoEntry.ensures.exact in
    record {
      read =
          passes g.S.DepartureSink.takes c.args.judge.now.config c.args.reading c.args.most l.ids l.judge.log l.counts l.number (left c.args.lines.now) (left l.lines) c.args.sink.now l.sink l.invariant.read line (left c.next_step.new.lines)
          step.0 step.1.0 step.1.1;
      known = l.invariant.known;
      config = l.invariant.config;
      calls = omega (arith, l.invariant.calls);
      fewer = l.invariant.fewer;
    }

pub returns-then-counts-most-clause-judged : goal.returns-then-counts-most-clause-judged
returns-then-counts-most-clause-judged g c =
    let l = c.loop-number in
    let config = c.args.judge.now.config in
    let left = g.L.LineSource.left in
    let takes = g.S.DepartureSink.takes in
    let line = c.next_step.new.line.items in
    let entry = c.next_step.new.entry in
    let time_out = c.in-Ok-Entry.time_out in
    let counted = c.in_ok-counts-in-Ok-Entry.ensures in
    let step : IsStep (logged_request_at config) line entry (steps.Entry time_out) (left l.lines) (left c.next_step.new.lines) = rw (c.config.ensures ∙ l.invariant.config, c.in-Ok-Entry.field-0-is) at c.in-Ok-Entry.ensures.exact in
    let waits : c.of-wait.result ≡ max_wait_of c.args.reading.time_outs entry.call time_out = c.of-wait.ensures in
    let read : AreRead takes config c.args.reading c.args.most c.judge_entry.new.ids c.judge_entry.new.judge.log c.in_ok-counts-in-Ok-Entry.field-0 (l.number + 1) (left c.args.lines.now) (left c.next_step.new.lines) c.args.sink.now c.judge_entry.new.sink =
    rw (counted.log, counted.counts, counted.known, waits, l.invariant.config)
    (goes_on takes config c.args.reading c.args.most l.ids l.judge.log l.counts l.number (left c.args.lines.now) (left l.lines) c.args.sink.now l.sink l.invariant.read line (left c.next_step.new.lines) step.0 entry time_out c.judge_entry.new.sink step.1.0 step.1.1
    (rw (waits, l.invariant.config) at counted.handed)) in
    at_most takes config c.args.reading c.args.most c.judge_entry.new.ids c.judge_entry.new.judge.log c.in_ok-counts-in-Ok-Entry.field-0 (l.number + 1) (left c.args.lines.now) (left c.next_step.new.lines) c.args.sink.now c.judge_entry.new.sink read
    (search rules)

pub loop-number-preserved : goal.loop-number-preserved
loop-number-preserved g c =
    let l = c.loop-number in
    let config = c.args.judge.now.config in
    let left = g.L.LineSource.left in
    let takes = g.S.DepartureSink.takes in
    let line = c.next_step.new.line.items in
    let entry = c.next_step.new.entry in
    let time_out = c.in-Ok-Entry.time_out in
    let counted = c.in_ok-counts-in-Ok-Entry.ensures in
    let step : IsStep (logged_request_at config) line entry (steps.Entry time_out) (left l.lines) (left c.next_step.new.lines) = rw (c.config.ensures ∙ l.invariant.config, c.in-Ok-Entry.field-0-is) at c.in-Ok-Entry.ensures.exact in
    let wait = max_wait_of c.args.reading.time_outs entry.call time_out in
    let waits : c.of-wait.result ≡ wait = c.of-wait.ensures in
    let instead = instead_of l.judge.config l.judge.log (polled_entry wait (entry_in_ours l.judge.config l.ids entry)) in
    let more : c.in_ok-counts-in-Ok-Entry.field-0.calls ≡ l.counts.calls + 1 =
    ap (λ (counts : DepartureCounts). counts.calls) (rw waits at counted.counts) ∙ one_call_more l.counts instead in
    record {
      read =
          rw (counted.log, counted.counts, counted.known, waits, l.invariant.config)
          (goes_on takes config c.args.reading c.args.most l.ids l.judge.log l.counts l.number (left c.args.lines.now) (left l.lines) c.args.sink.now l.sink l.invariant.read line (left c.next_step.new.lines) step.0 entry time_out c.judge_entry.new.sink step.1.0 step.1.1
          (rw (waits, l.invariant.config) at counted.handed));
      known = counted.count ∙ l.invariant.known;
      config = c.judge_entry.ensures.config ∙ l.invariant.config;
      calls = omega (arith, more, l.invariant.calls);
      fewer = rw (counted.counts, waits) (as_many_at_most l.counts instead l.invariant.fewer);
    }
