use Rattle.apex_mistakes.proofs.Common.{◌≡◌, ◌+◌, ◌-◌, ◌++◌, List, ◌∷◌, length, take, sym, ap, ◌∙◌, arith, option_map, lines, log_places_from}
use Rattle.std.specs.Global.{Vec}
use Rattle.apex_mistakes.specs.declared.log_place.LogPlace.{LogPlace}
use Rattle.apex_mistakes.proofs.FaultyLinesLemmas.{keeps, leaves_out}
use Rattle.apex_mistakes.proofs.LogFaultsLemmas.{finds, passes, ends, finds_nothing, none_left}
use Rattle.apex_mistakes.proofs.faulty_log.find_log_faults.Goals.{then-count-most+in_ok-log_place_in+in_ok-push, else-count-most}
use Rattle.apex_mistakes.proofs.faulty_log.find_log_faults.Goals as goal

pub loop-line-preserved : goal.loop-line-preserved
loop-line-preserved g c =
    let asked_by = g.F.LogForm.asked_by c.args.form.now in
    let entry = option_map (λ time_out. (c.read_line.new.entry, time_out)) c.in_default-read_line.field-0 in
    let goes = sym c.ends_calls.ensures ∙ c.if-ends_calls.false in
    let same = passes asked_by c.args.front.now (c.loop-line.number + 1) (lines c.loop-line.rest.now) c.in-Some.line.now (lines c.in-Some.after.now) entry c.in-Some.ensures.line goes c.in_default-read_line.ensures.exact in
    record {
      first = ap (λ (left : List LogPlace). c.loop-line.first.items ++ take (c.args.most - c.loop-line.count) left) (sym same) ∙ c.loop-line.invariant.first;
      counted = ap (λ (left : List LogPlace). c.loop-line.count + length left) (sym same) ∙ c.loop-line.invariant.counted;
      fewer = omega arith;
      bound = omega (arith, c.in-Some.ensures.shorter);
    }

pub returns-then-ends_calls : goal.returns-then-ends_calls
returns-then-ends_calls g c =
    let asked_by = g.F.LogForm.asked_by c.args.form.now in
    let front = c.args.front.now in
    let number = c.loop-line.number + 1 in
    let left = log_places_from asked_by front number (lines c.loop-line.rest.now) in
    let total = log_places_from asked_by front 1 (lines c.args.text.now) in
    let none = ends asked_by front number (lines c.loop-line.rest.now) c.in-Some.line.now (lines c.in-Some.after.now) c.in-Some.ensures.line (sym c.ends_calls.ensures ∙ c.if-ends_calls.true) in
    record {
      first = none_left c.loop-line.first.items (c.args.most - c.loop-line.count) left (take c.args.most total) none c.loop-line.invariant.first;
      count = omega (arith, ap length none, c.loop-line.invariant.counted);
    }

pub returns : goal.returns
returns g c =
    let asked_by = g.F.LogForm.asked_by c.args.form.now in
    let front = c.args.front.now in
    let number = c.loop-line.number + 1 in
    let left = log_places_from asked_by front number (lines c.loop-line.rest.now) in
    let total = log_places_from asked_by front 1 (lines c.args.text.now) in
    let none = finds_nothing asked_by front number (lines c.loop-line.rest.now) c.in_default.ensures.line in
    record {
      first = none_left c.loop-line.first.items (c.args.most - c.loop-line.count) left (take c.args.most total) none c.loop-line.invariant.first;
      count = omega (arith, ap length none, c.loop-line.invariant.counted);
    }

pub loop-line-preserved-after-count-most : goal.loop-line-preserved-after-count-most
loop-line-preserved-after-count-most g c =
    let asked_by = g.F.LogForm.asked_by c.args.form.now in
    let front = c.args.front.now in
    let number = c.loop-line.number + 1 in
    let line = c.in-Some.line.now in
    let left = log_places_from asked_by front number (lines c.loop-line.rest.now) in
    let after = log_places_from asked_by front (number + 1) (lines c.in-Some.after.now) in
    let total = take c.args.most (log_places_from asked_by front 1 (lines c.args.text.now)) in
    let found = finds asked_by front number (lines c.loop-line.rest.now) line (lines c.in-Some.after.now) c.in-Err.fault c.in-Some.ensures.line (sym c.ends_calls.ensures ∙ c.if-ends_calls.false) c.in-Err.ensures.exact in
    record {
      first =
          elim c.if-count-most.branch [
            | then-count-most+in_ok-log_place_in+in_ok-push w ↦
                ap (λ (first : Vec LogPlace). first.items ++ take (c.args.most - (c.loop-line.count + 1)) after) w.first-is
                ∙ (let here : left ≡ w.in_ok-log_place_in.field-0 ∷ after = found ∙ ap (λ (x : LogPlace). x ∷ after) (sym w.in_ok-log_place_in.ensures) in
                rw w.in_ok-push.ensures.items (keeps c.loop-line.first.items c.args.most c.loop-line.count w.in_ok-log_place_in.field-0 left after total here w.if-count-most.true c.loop-line.invariant.first))
            | else-count-most w ↦
                ap (λ (first : Vec LogPlace). first.items ++ take (c.args.most - (c.loop-line.count + 1)) after) w.first-is
                ∙ leaves_out c.loop-line.first.items c.args.most c.loop-line.count left after total w.if-count-most.false c.loop-line.invariant.first
          ];
      counted = omega (arith, ap length found, c.loop-line.invariant.counted);
      fewer = omega arith;
      bound = omega (arith, c.in-Some.ensures.shorter);
    }
