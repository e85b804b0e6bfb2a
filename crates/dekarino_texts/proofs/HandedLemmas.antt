-- Handing more pieces to a sink.
use Rattle.dekarino_texts.proofs.Common.{List, [], ◌∷◌, ◌++◌, refl, sym, subst, IsHanded}

module _ {S X : Type 0} (takes : S → X → S → Type 0) where
  pub handed_more : (before middle after : S) (pieces more : List X) → IsHanded takes before pieces middle → IsHanded takes middle more after → IsHanded takes before (pieces ++ more) after
  handed_more before middle after [] more same then = subst (λ (s : S). IsHanded takes s more after) (sym same) then
  handed_more before middle after (piece ∷ rest) more (next, took, others) then = (next, took, handed_more next middle after rest more others then)

  pub handed_one : (before middle after : S) (pieces : List X) (piece : X) → IsHanded takes before pieces middle → takes middle piece after → IsHanded takes before (pieces ++ piece ∷ []) after
  handed_one before middle after pieces piece handed took = handed_more before middle after pieces (piece ∷ []) handed (after, took, refl)
