use Rattle.apex_groups.proofs.Common.{◌≡◌, Some, slice_get, sym, ap, ◌∙◌, subst, slice_get-get_or, ArePicked, AreOfPart}
use Rattle.apex_groups.specs.declared.questions.Picked.{Picked}
use Rattle.apex_groups.proofs.AnswerLemmas.{one_of_part, one_picked}
use Rattle.apex_groups.proofs.questions.Picked.of_part.Goals as goal
use Rattle.apex_groups.proofs.questions.Picked.of_part.Goals.{then-is_of_part+in_ok-add, else-is_of_part}

pub loop-index-preserved : goal.loop-index-preserved
loop-index-preserved c =
    let config = c.args.config.now in
    let parts = c.args.parts.now in
    let scripts = c.args.scripts.now in
    let asked = c.args.asked.now in
    let index = c.loop-index.index in
    let one = c.index-asked-index.result in
    let at : slice_get asked index ≡ Some one = slice_get-get_or asked index one c.loop-index-test.true ∙ ap Some (sym c.index-asked-index.is) in
    elim c.if-is_of_part.branch [
      | then-is_of_part+in_ok-add w ↦ record {
        picked = subst (ArePicked asked) (sym w.picked-is) (one_picked asked c.loop-index.picked w.add.new.self index one c.loop-index.invariant.picked at w.in_ok-add.ensures.indexes w.in_ok-add.ensures.asked);
        part = subst (λ (p : Picked). AreOfPart config parts scripts c.args.part p.asked.items) (sym w.picked-is)
            (one_of_part config parts scripts c.args.part c.loop-index.picked.asked.items w.add.new.self.asked.items one c.loop-index.invariant.part (c.is_of_part.ensures w.if-is_of_part.true) w.in_ok-add.ensures.asked);
      }
      | else-is_of_part w ↦ record {
        picked = subst (ArePicked asked) (sym w.picked-is) c.loop-index.invariant.picked;
        part = subst (λ (p : Picked). AreOfPart config parts scripts c.args.part p.asked.items) (sym w.picked-is) c.loop-index.invariant.part;
      }
    ]
