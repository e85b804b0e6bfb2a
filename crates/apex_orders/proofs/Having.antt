-- Items of lists, wherever they are.
use Rattle.apex_orders.proofs.Common.{◌≡◌, ◌⊎◌, inl, inr, ⊎_elim, ℕ, zero, suc, List, [], ◌∷◌, ◌++◌, map, Some, refl, ap, ◌∙◌, slice_get, Has}
use Rattle.std.specs.Option.{option_map}
use Rattle.std.proofs.lemmas.Option.{slice_get-map}
use Rattle.apex_orders.proofs.Lists.{stays_before}

module _ {X : Type 0} where
  pub has_none : (x : X) → Has [] x → ⊥
  has_none x has = absurd (let at = has.1 in cc)

  pub has_rest : (y : X) (xs : List X) (x : X) → Has xs x → Has (y ∷ xs) x
  has_rest y xs x has = (suc has.0, has.1)

  pub first_or_rest : (y : X) (xs : List X) (x : X) → Has (y ∷ xs) x → (y ≡ x) ⊎ Has xs x
  first_or_rest y xs x has = of_index has.0 has.1
    where
      of_index : (k : ℕ) → slice_get (y ∷ xs) k ≡ Some x → (y ≡ x) ⊎ Has xs x
      of_index zero at = inl (let same : y ≡ x = cc in same)
      of_index (suc k) at = inr (k, at)

  pub has_before : (xs ys : List X) (x : X) → Has xs x → Has (xs ++ ys) x
  has_before xs ys x has = (has.0, stays_before xs ys has.0 x has.1)

  pub has_behind : (xs ys : List X) (x : X) → Has ys x → Has (xs ++ ys) x
  has_behind [] ys x has = has
  has_behind (y ∷ xs) ys x has = has_rest y (xs ++ ys) x (has_behind xs ys x has)

  pub has_either : (xs ys : List X) (x : X) → Has (xs ++ ys) x → Has xs x ⊎ Has ys x
  has_either [] ys x has = inr has
  has_either (y ∷ xs) ys x has =
      ⊎_elim
      (λ (first : y ≡ x). inl (0, ap Some first))
      (λ (rest : Has (xs ++ ys) x). ⊎_elim
      (λ (mine : Has xs x). inl (has_rest y xs x mine))
      (λ (theirs : Has ys x). inr theirs)
      (has_either xs ys x rest))
      (first_or_rest y (xs ++ ys) x has)

pub has_mapped : {X Y : Type 0} (f : X → Y) (xs : List X) (x : X) → Has xs x → Has (map f xs) (f x)
has_mapped f xs x has = (has.0, slice_get-map f xs has.0 ∙ ap (option_map f) has.1)

pub of_mapped : {X Y : Type 0} (f : X → Y) (xs : List X) (y : Y) → Has (map f xs) y → (x : X) × Has xs x × (f x ≡ y)
of_mapped f [] y has = absurd (has_none y has)
of_mapped {X} {Y} f (z ∷ xs) y has =
    ⊎_elim
    (λ (first : f z ≡ y). (z, (0, refl), first))
    (λ (rest : Has (map f xs) y). let found : (x : X) × Has xs x × (f x ≡ y) = of_mapped f xs y rest in (found.0, (suc found.1.0, found.1.1), found.2))
    (first_or_rest (f z) (map f xs) y has)
