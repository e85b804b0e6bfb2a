use Rattle.apex_groups.proofs.Common.{◌≡◌, ◌<◌, ◌+◌, ℕ, Some, None, slice_get, sym, ap, ◌∙◌, subst, arith, not, false≢true, slice_get-get_or, slice_get_within, Has, ArePicked}
use Rattle.std.specs.Option.{is_some}
use Rattle.apex_groups.specs.declared.questions.Picked.{Picked}
use Rattle.apex_orders.proofs.ChoiceLemmas.{one_more}
use Rattle.apex_groups.proofs.AnswerLemmas.{one_more_listed, one_picked}
use Rattle.apex_groups.proofs.questions.Picked.unanswered.Goals as goal
use Rattle.apex_groups.proofs.questions.Picked.unanswered.Goals.{then-is_none+in_ok-add, else-is_none}

pub loop-index-preserved : goal.loop-index-preserved
loop-index-preserved c =
    let asked = c.args.asked.now in
    let answers = c.args.answers.now in
    let index = c.loop-index.index in
    let one = c.index-asked-index.result in
    let was = c.index-answers-index.result in
    let test = c.loop-index-test.true in
    let count = c.requires in
    let at : slice_get asked index ≡ Some one = slice_get-get_or asked index one c.loop-index-test.true ∙ ap Some (sym c.index-asked-index.is) in
    let known : slice_get answers index ≡ Some was = slice_get-get_or answers index was (omega (arith, test, count)) ∙ ap Some (sym c.index-answers-index.is) in
    elim c.if-is_none.branch [
      | then-is_none+in_ok-add w ↦ record {
        picked = subst (ArePicked asked) (sym w.picked-is) (one_picked asked c.loop-index.picked w.add.new.self index one c.loop-index.invariant.picked at w.in_ok-add.ensures.indexes w.in_ok-add.ensures.asked);
        all = subst (λ (p : Picked). (k : ℕ) → k < index + 1 → slice_get answers k ≡ Some None → Has p.indexes.items k) (sym w.picked-is)
            (one_more_listed (λ (k : ℕ). slice_get answers k ≡ Some None) c.loop-index.picked.indexes.items w.add.new.self.indexes.items index c.loop-index.invariant.all w.in_ok-add.ensures.indexes);
      }
      | else-is_none w ↦ record {
        picked = subst (ArePicked asked) (sym w.picked-is) c.loop-index.invariant.picked;
        all = subst (λ (p : Picked). (k : ℕ) → k < index + 1 → slice_get answers k ≡ Some None → Has p.indexes.items k) (sym w.picked-is)
            (one_more (λ (k : ℕ). slice_get answers k ≡ Some None → Has c.loop-index.picked.indexes.items k) index c.loop-index.invariant.all
            (λ here. absurd (let some : Some was ≡ Some None = sym known ∙ here in let none : was ≡ None = cc in false≢true (sym (ap is_some none) ∙ (c.is_none.ensures ∙ ap not w.if-is_none.false)))));
      }
    ]

pub returns-clause-all : goal.returns-clause-all
returns-clause-all c = λ k none.
    let within = slice_get_within c.args.answers.now k None none in
    let past = c.loop-index-test.false in
    let count = c.requires in
    c.loop-index.invariant.all k (omega (arith, within, past, count)) none
