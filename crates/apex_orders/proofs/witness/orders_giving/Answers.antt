use Rattle.apex_orders.proofs.Common.{◌≡◌, ⊎_elim, ◌<◌, ℕ, [], ◌∷◌, ◌++◌, length, length-append, List, Option, Result, Some, None, sym, ap, ◌∙◌, subst, arith, at_index, get_or, slice_get, slice_get-get_or, slice_get_within, IsAnswerTo, answer_by}
use Rattle.apex_orders.specs.declared.orders_fault.OrdersFault.{OrdersFault}
use Rattle.apex_orders.proofs.Lists.{before_or_last}
use Rattle.apex_orders.proofs.WitnessLemmas.{is_answer}
use Rattle.apex_orders.proofs.witness.orders_giving.Goals as goal

pub loop-q-preserved : goal.loop-q-preserved
loop-q-preserved g c =
    let found = c.in_ok-found.found in
    let items = found.answers.items in
    let was = c.loop-q.invariant in
    let q = c.loop-q.q in
    let one = c.in_ok-answer.answer in
    let count = was.count in
    let within : q < length items = omega arith in
    let here : slice_get items q ≡ Some c.index.result.now = at_index items q c.index.result.now within c.index.ensures in
    let pushed : c.push.new.self.items ≡ c.loop-q.answers.items ++ one ∷ [] = c.in_ok-push.ensures.items in
    let longer = ap (λ (all : List (Result (Option (List ℕ)) OrdersFault)). length all) pushed in
    record {
      count = omega (arith, longer, count, length-append c.loop-q.answers.items (one ∷ []));
      each = λ k order answer at given.
          ⊎_elim
          (λ (before : slice_get c.loop-q.answers.items k ≡ Some answer). was.each k order answer at before)
          (λ (last : (k ≡ length c.loop-q.answers.items) × (one ≡ answer)).
          let both : Some c.index.result.now ≡ Some order = sym here ∙ (ap (λ (n : ℕ). slice_get items n) (sym (last.0 ∙ count)) ∙ at) in
          let same : c.index.result.now ≡ order = cc in
          ap (answer_by found.given_up) (sym same) ∙ (sym c.in_ok-answer.ensures ∙ last.1))
          (before_or_last c.loop-q.answers.items one k answer (subst (λ (all : List (Result (Option (List ℕ)) OrdersFault)). slice_get all k ≡ Some answer) pushed given));
    }

pub returns : goal.returns
returns g c =
    let config = c.args.config.now in
    let scripts = c.args.scripts.now in
    let clock = c.args.clock in
    let can_stop = g.P.Progress.CanStop in
    let found = c.in_ok-found.found in
    let items = found.answers.items in
    let ended = c.in_ok-found.ensures.ended in
    let was = c.loop-q.invariant in
    let asked = ended.answers.count in
    let made = was.count in
    record {
      count = omega (arith, asked, made);
      each = λ k one answer at given.
          let within = slice_get_within c.args.asked.now k one at in
          let order : Option (List ℕ) = get_or items k None in
          let here : slice_get items k ≡ Some order = slice_get-get_or items k None (omega (arith, within, asked)) in
          subst (IsAnswerTo clock can_stop config scripts c.args.bound one) (was.each k order answer here given)
          (is_answer clock config scripts c.partitions-partitions.ensures.valid can_stop c.args.bound c.args.asked.now found ended c.in_ok-found.ensures.given_up k one order at here);
    }
