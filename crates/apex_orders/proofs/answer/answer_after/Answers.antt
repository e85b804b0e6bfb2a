use Rattle.apex_orders.proofs.Common.{◌≡◌, ap, ℕ, List, ◌++◌, ◌∷◌, [], true, false, false≢true, Some, slice_get, sym, ◌∙◌, subst, arith, order_at, IsAnsweredAfter, IsAnsweredByWith}
use Rattle.apex_orders.proofs.GrowthLemmas.{order_here}
use Rattle.apex_orders.proofs.WitnessLemmas.{longer_answers}
use Rattle.apex_orders.proofs.answer.answer_after.Goals as goal

pub returns-then-not-gives-clause-answer : goal.returns-then-not-gives-clause-answer
returns-then-not-gives-clause-answer c = λ order at answered.
    let orders = c.args.current.now.orders in
    let both : Some (order_at orders c.args.i) ≡ Some order = sym (order_here orders c.args.i c.requires.within) ∙ at in
    let same : order_at orders c.args.i ≡ order = cc in
    let there = c.if-not-gives.true in
    let no : c.gives.result ≡ false = grind (arith, there) in
    false≢true (sym no ∙ c.gives.ensures.given.1 (subst (IsAnsweredAfter c.args.clock c.args.config.now c.args.scripts.now c.args.asked.now) (sym same) answered))

pub returns-clause-answer : goal.returns-clause-answer
returns-clause-answer c =
    let config = c.args.config.now in
    let scripts = c.args.scripts.now in
    let orders = c.args.current.now.orders in
    let asked = c.args.asked.now in
    let item = order_at orders c.args.i in
    let at : slice_get orders c.args.i ≡ Some item = order_here orders c.args.i c.requires.within in
    let there = c.if-not-gives.false in
    let yes : c.gives.result ≡ true = grind (arith, there) in
    subst (IsAnsweredByWith c.args.clock config scripts asked) (sym (c.in_ok-answer.ensures ∙ ap (λ (order : List ℕ). order ++ asked.partition ∷ []) c.in_ok-order.ensures))
    (longer_answers c.args.clock config scripts c.partitions-partitions.ensures.valid asked item (c.requires.valid.orders c.args.i item at) (c.requires.valid.clocked c.args.i item at) (c.gives.ensures.given.0 yes))
