use Rattle.apex_orders.proofs.Common.{◌≡◌, ◌++◌, ◌∷◌, [], ⊎_elim, inl, inr, List, refl, sym, ap, ◌∙◌, subst, PossibleReply, Has, possible}
use Rattle.apex_orders.proofs.Having.{first_or_rest, has_before, has_behind, has_either, has_none}
use Rattle.apex_orders.proofs.replies.Replies.add_unless_known.Goals.{then-has-via-then-has, then-has-via-else-has+then-has-2}
use Rattle.apex_orders.proofs.replies.Replies.add_unless_known.Goals as goal

pub returns-then-has-clause-added : goal.returns-then-has-clause-added
returns-then-has-clause-added c =
    let known = c.args.known.now in
    let own = c.args.self.now in
    let one = possible c.args.made in
    elim c.then-has.branch [
      | then-has-via-then-has w ↦ has_before known own one (c.has.ensures w.if-has.true)
      | then-has-via-else-has+then-has-2 w ↦ has_behind known own one (w.has-else-has.ensures w.if-has-2.true)
    ]

pub returns-clause-kept : goal.returns-clause-kept
returns-clause-kept c other has =
    subst (λ (all : List PossibleReply). Has all other) (sym (c.in_ok-push.ensures ∙ ap (λ (o : PossibleReply). c.args.self.now ++ o ∷ []) c.to_possible.ensures)) (has_before c.args.self.now ((possible c.args.made) ∷ []) other has)

pub returns-clause-added : goal.returns-clause-added
returns-clause-added c =
    let one = possible c.args.made in
    has_behind c.args.known.now c.push.new.self one (subst (λ (all : List PossibleReply). Has all one) (sym (c.in_ok-push.ensures ∙ ap (λ (o : PossibleReply). c.args.self.now ++ o ∷ []) c.to_possible.ensures)) (has_behind c.args.self.now (one ∷ []) one (0, refl)))

pub returns-clause-only : goal.returns-clause-only
returns-clause-only c other has =
    let old = c.args.self.now in
    let one = possible c.args.made in
    ⊎_elim
    (λ (before : Has old other). inl before)
    (λ (new : Has (one ∷ []) other). ⊎_elim (λ (same : one ≡ other). inr (sym same)) (λ (rest : Has [] other). absurd (has_none other rest)) (first_or_rest one [] other new))
    (has_either old (one ∷ []) other (subst (λ (all : List PossibleReply). Has all other) (c.in_ok-push.ensures ∙ ap (λ (o : PossibleReply). c.args.self.now ++ o ∷ []) c.to_possible.ensures) has))
