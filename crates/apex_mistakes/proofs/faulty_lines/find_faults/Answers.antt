use Rattle.apex_mistakes.proofs.Common.{◌+◌, ◌-◌, ◌++◌, take, length, ap, ◌∙◌, arith, lines, LinePlace, places_from, places_of}
use Rattle.std.specs.Global.{Vec}
use Rattle.apex_mistakes.proofs.FaultyLinesLemmas.{keeps, leaves_out}
use Rattle.apex_mistakes.proofs.faulty_lines.find_faults.Goals.{then-count-most+in_ok-push, else-count-most}
use Rattle.apex_mistakes.proofs.faulty_lines.find_faults.Goals as goal

pub loop-place-preserved : goal.loop-place-preserved
loop-place-preserved g c =
    let item_at = g.F.LineForm.item_at c.args.form.now in
    let front = c.args.front.now in
    let left = places_from item_at front (c.loop-place.number + 1) (lines c.loop-place.rest.now) in
    let after = places_from item_at front (c.in-Some.place.line + 1) (lines c.in-Some.after.now) in
    let total = take c.args.most (places_of item_at front c.args.text.now) in
    record {
      first =
          elim c.if-count-most.branch [
            | then-count-most+in_ok-push w ↦
                ap (λ (first : Vec LinePlace). first.items ++ take (c.args.most - (c.loop-place.count + 1)) after) w.first-is
                ∙ rw w.in_ok-push.ensures.items (keeps c.loop-place.first.items c.args.most c.loop-place.count c.in-Some.place left after total c.in-Some.ensures.first w.if-count-most.true c.loop-place.invariant.first)
            | else-count-most w ↦
                ap (λ (first : Vec LinePlace). first.items ++ take (c.args.most - (c.loop-place.count + 1)) after) w.first-is
                ∙ leaves_out c.loop-place.first.items c.args.most c.loop-place.count left after total w.if-count-most.false c.loop-place.invariant.first
          ];
      counted = omega (arith, ap length c.in-Some.ensures.first, c.loop-place.invariant.counted);
      fewer = omega (arith, c.in-Some.ensures.later);
      bound = omega (arith, c.in-Some.ensures.room);
    }
