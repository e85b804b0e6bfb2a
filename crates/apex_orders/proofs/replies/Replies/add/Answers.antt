use Rattle.apex_orders.proofs.Common.{◌≡◌, ◌++◌, ◌∷◌, [], ⊎_elim, inl, inr, List, Some, sym, ap, ◌∙◌, subst, PossibleReply, Has}
use Rattle.apex_orders.proofs.Having.{first_or_rest, has_before, has_behind, has_either, has_none}
use Rattle.apex_orders.proofs.replies.Replies.add.Goals as goal

pub returns : goal.returns
returns c other =
    let old = c.args.self.now in
    let one = c.args.one.now in
    let pushed : c.push.new.self ≡ old ++ one ∷ [] = c.in_ok-push.ensures ∙ ap (λ (o : PossibleReply). old ++ o ∷ []) c.copy.ensures in (
      λ has.
          ⊎_elim
          (λ (before : Has old other). inl before)
          (λ (new : Has (one ∷ []) other). ⊎_elim (λ (same : one ≡ other). inr (sym same)) (λ (rest : Has [] other). absurd (has_none other rest)) (first_or_rest one [] other new))
          (has_either old (one ∷ []) other (subst (λ (all : List PossibleReply). Has all other) pushed has)),
      λ either.
          subst (λ (all : List PossibleReply). Has all other) (sym pushed)
          (⊎_elim
          (λ (before : Has old other). has_before old (one ∷ []) other before)
          (λ (same : other ≡ one). has_behind old (one ∷ []) other (0, ap Some (sym same)))
          either),
    )
