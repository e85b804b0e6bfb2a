use Rattle.apex_groups.proofs.Common.{List, Option, length, sym, ap, ◌∙◌, subst, arith, Scripts, AreKnown, ArePut, Found}
use Rattle.apex_orders.specs.Outcomes.{IsAnswerTo}
use Rattle.apex_groups.proofs.AnswerLemmas.{known_after, picked_within, written_back}
use Rattle.apex_groups.proofs.witness.answers_of_parts.Goals as goal

pub answer_part-requires-clause-within : goal.answer_part-requires-clause-within
answer_part-requires-clause-within g c κs within = λ k has.
    let few = picked_within c.args.asked.now c.in_ok-picked.picked c.in_ok-picked.ensures.picked k has in
    let count = c.loop-p.invariant.count in
    let value = ap (λ (xs : List (Option Found)). length xs) c.as_mut_slice-answers.ensures.value in
    omega (arith, few, count, value)

pub loop-p-preserved : goal.loop-p-preserved
loop-p-preserved g c =
    let clock = c.args.clock in
    let can_stop = g.P.Progress.CanStop in
    let config = c.args.config.now in
    let scripts = c.args.scripts.now in
    let bound = c.args.bound in
    let asked = c.args.asked.now in
    let picked = c.in_ok-picked.picked in
    let old = c.loop-p.answers.items in
    let new = c.answer_part.new.answers in
    let put : ArePut (IsAnswerTo clock can_stop config scripts bound) picked.indexes.items picked.asked.items old new =
    subst (λ (both : Scripts × List (Option Found)). ArePut (IsAnswerTo clock can_stop config both.0 bound) picked.indexes.items picked.asked.items both.1 new)
    (λ i. (c.loop-p.invariant.same i, c.as_mut_slice-answers.ensures.value i)) c.in_ok-answer_part.ensures.put in
    let back = written_back new _ c.loop-p.answers.len (c.loop-p.answers.ok.0 ∙ sym put.count) in
    record {
      same = c.in_ok-answer_part.ensures.same ∙ c.loop-p.invariant.same;
      count = ap (λ (xs : List (Option Found)). length xs) back ∙ (put.count ∙ c.loop-p.invariant.count);
      known = subst (AreKnown clock can_stop config scripts bound asked) (sym back)
          (known_after clock can_stop config scripts bound asked picked old new c.in_ok-picked.ensures.picked put c.loop-p.invariant.known);
    }
