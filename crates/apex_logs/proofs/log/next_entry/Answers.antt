use Rattle.apex_logs.proofs.Common.{◌≡◌, ◌+◌, Ok, Err, Some, None, sym, ◌∙◌, arith, lines, entry_of_line}
use Rattle.apex_logs.proofs.LogLemmas.{reads, ends, has_no_line}
use Rattle.apex_logs.proofs.log.next_entry.Goals as goal

pub returns-then-ends_calls-clause-next : goal.returns-then-ends_calls-clause-next
returns-then-ends_calls-clause-next g c =
    c.loop-line.invariant.left
    ∙ ends (g.F.LogForm.asked_by c.args.form.now) (c.loop-line.number + 1) (lines c.loop-line.rest.now) c.in-Some.line.now (lines c.in-Some.after.now) c.in-Some.ensures.line (sym c.ends_calls.ensures ∙ c.if-ends_calls.true)

pub returns-in-Ok-Some-clause-next : goal.returns-in-Ok-Some-clause-next
returns-in-Ok-Some-clause-next g c =
    let asked_by = g.F.LogForm.asked_by c.args.form.now in
    let read : entry_of_line asked_by c.in-Some.line.now ≡ Ok (Some (c.read_line.new.entry, c.in-Ok-Some.time_out)) = rw c.in-Ok-Some.field-0-is at c.in-Ok-Some.ensures.exact in
    c.loop-line.invariant.left
    ∙ reads asked_by (c.loop-line.number + 1) (lines c.loop-line.rest.now) c.in-Some.line.now (lines c.in-Some.after.now) (Ok (Some (c.read_line.new.entry, c.in-Ok-Some.time_out))) c.in-Some.ensures.line (sym c.ends_calls.ensures ∙ c.if-ends_calls.false) read

pub loop-line-preserved : goal.loop-line-preserved
loop-line-preserved g c =
    let asked_by = g.F.LogForm.asked_by c.args.form.now in
    let read : entry_of_line asked_by c.in-Some.line.now ≡ Ok None = rw c.in-Ok-None.field-0-is at c.in-Ok-None.ensures.exact in
    record {
      left =
          c.loop-line.invariant.left
          ∙ reads asked_by (c.loop-line.number + 1) (lines c.loop-line.rest.now) c.in-Some.line.now (lines c.in-Some.after.now) (Ok None) c.in-Some.ensures.line (sym c.ends_calls.ensures ∙ c.if-ends_calls.false) read;
      later = omega arith;
      bound = omega (arith, c.in-Some.ensures.shorter);
    }

pub returns-in-Err-clause-faulty : goal.returns-in-Err-clause-faulty
returns-in-Err-clause-faulty g c =
    c.loop-line.invariant.left
    ∙ reads (g.F.LogForm.asked_by c.args.form.now) (c.loop-line.number + 1) (lines c.loop-line.rest.now) c.in-Some.line.now (lines c.in-Some.after.now) (Err c.in-Err.fault) c.in-Some.ensures.line (sym c.ends_calls.ensures ∙ c.if-ends_calls.false) c.in-Err.ensures.exact

pub returns-clause-next : goal.returns-clause-next
returns-clause-next g c =
    c.loop-line.invariant.left ∙ has_no_line (g.F.LogForm.asked_by c.args.form.now) (c.loop-line.number + 1) (lines c.loop-line.rest.now) c.in_default.ensures.line
