use Rattle.apex_mistakes.proofs.Common.{◌≡◌, ◌+◌, ◌∷◌, sym, ap, ◌∙◌, arith, lines, LinePlace, FaultyLine, places_from}
use Rattle.apex_mistakes.proofs.PlaceLemmas.{place-faulty}
use Rattle.apex_mistakes.proofs.FaultyLinesLemmas.{finds, passes, finds_nothing}
use Rattle.apex_mistakes.proofs.faulty_lines.next_fault.Goals as goal

pub returns-in-Err-clause-first : goal.returns-in-Err-clause-first
returns-in-Err-clause-first g c =
    let item_at = g.F.LineForm.item_at c.args.form.now in
    let front = c.args.front.now in
    let number = c.loop-line.number + 1 in
    let line = c.in-Some.line.now in
    let found = finds item_at front number (lines c.loop-line.rest.now) line (lines c.in-Some.after.now) c.in-Err.fault c.in-Some.ensures.line (sym c.item_of_line.ensures ∙ c.in-Err.is) in
    let at : c.place_in.result.line ≡ number = ap (λ (place : LinePlace). place.line) c.place_in.ensures ∙ ap (λ (faulty : FaultyLine). faulty.line) (place-faulty front number c.in-Err.fault line) in
    c.loop-line.invariant.left ∙ found
    ∙ ap (λ place. place ∷ places_from item_at front (number + 1) (lines c.in-Some.after.now)) (sym c.place_in.ensures)
    ∙ ap (λ n. c.place_in.result ∷ places_from item_at front (n + 1) (lines c.in-Some.after.now)) (sym at)

pub loop-line-preserved : goal.loop-line-preserved
loop-line-preserved g c =
    let item_at = g.F.LineForm.item_at c.args.form.now in
    let read = sym c.item_of_line.ensures ∙ c.in_default-item_of_line.is in
    record {
      left = c.loop-line.invariant.left ∙ passes item_at c.args.front.now (c.loop-line.number + 1) (lines c.loop-line.rest.now) c.in-Some.line.now (lines c.in-Some.after.now) c.in_default-item_of_line.field-0 c.in-Some.ensures.line read;
      later = omega arith;
      bound = omega (arith, c.in-Some.ensures.shorter);
    }

pub returns-clause-first : goal.returns-clause-first
returns-clause-first g c =
    let item_at = g.F.LineForm.item_at c.args.form.now in
    c.loop-line.invariant.left ∙ finds_nothing item_at c.args.front.now (c.loop-line.number + 1) (lines c.loop-line.rest.now) c.in_default.ensures.line
