use Rattle.apex_texts.proofs.Common.{◌≡◌, ◌+◌, Ok, Some, None, sym, ap, ◌∙◌, arith, lines, item_of_line, items_of}
use Rattle.apex_texts.proofs.LineLemmas.{goes_on, skips, refuses, ends}
use Rattle.apex_texts.proofs.lines.read_lines.Goals as goal

pub returns-in-Err : goal.returns-in-Err
returns-in-Err g c =
    let item_at = g.F.LineForm.item_at c.args.form.now in
    rw c.at.ensures (refuses item_at c.loop-line.items.items (c.loop-line.number + 1) (lines c.loop-line.rest.now) c.in-Some.line.now (lines c.in-Some.after.now) c.in-Err.fault
    (items_of item_at c.args.text.now) c.in-Some.ensures.line (sym c.item_of_line.ensures ∙ c.in-Err.is) c.loop-line.invariant.read)

pub loop-line-preserved-in_ok-push-in-Ok-Some : goal.loop-line-preserved-in_ok-push-in-Ok-Some
loop-line-preserved-in_ok-push-in-Ok-Some g c =
    let item_at = g.F.LineForm.item_at c.args.form.now in
    record {
      read =
          let is : item_of_line item_at c.in-Some.line.now ≡ Ok (Some c.in-Ok-Some.item) = sym c.item_of_line.ensures ∙ c.in-Ok-Some.is ∙ ap Ok c.in-Ok-Some.field-0-is in
          rw c.in_ok-push-in-Ok-Some.ensures.items (goes_on item_at c.loop-line.items.items (c.loop-line.number + 1) (lines c.loop-line.rest.now) c.in-Some.line.now (lines c.in-Some.after.now) c.in-Ok-Some.item
          (items_of item_at c.args.text.now) c.in-Some.ensures.line is c.loop-line.invariant.read);
      bound = omega (arith, c.in-Some.ensures.shorter);
    }

pub loop-line-preserved : goal.loop-line-preserved
loop-line-preserved g c =
    let item_at = g.F.LineForm.item_at c.args.form.now in
    record {
      read =
          let is : item_of_line item_at c.in-Some.line.now ≡ Ok None = sym c.item_of_line.ensures ∙ c.in-Ok-None.is ∙ ap Ok c.in-Ok-None.field-0-is in
          skips item_at c.loop-line.items.items (c.loop-line.number + 1) (lines c.loop-line.rest.now) c.in-Some.line.now (lines c.in-Some.after.now)
          (items_of item_at c.args.text.now) c.in-Some.ensures.line is c.loop-line.invariant.read;
      bound = omega (arith, c.in-Some.ensures.shorter);
    }

pub returns : goal.returns
returns g c =
    let item_at = g.F.LineForm.item_at c.args.form.now in
    ends item_at c.loop-line.items.items (c.loop-line.number + 1) (lines c.loop-line.rest.now) (items_of item_at c.args.text.now) c.in_default.ensures.line c.loop-line.invariant.read
