-- Items of lists.
use Rattle.apex_groups.proofs.Common.{◌≡◌, ⊎_elim, ℕ, zero, suc, ◌<◌, Bool, true, false, cond, List, [], ◌∷◌, length, map, Some, refl, sym, ap, subst, ◌∙◌, arith, slice_get, slice_get-map, option_map, filter, Has}
use Rattle.apex_orders.proofs.Having.{first_or_rest, has_none, has_rest}

module _ {X : Type 0} where
  pub item_at : (xs : List X) (k : ℕ) → k < length xs → (x : X) × (slice_get xs k ≡ Some x)
  item_at [] k within = absurd (omega arith)
  item_at (x ∷ xs) zero within = (x, refl)
  item_at (x ∷ xs) (suc k) within = item_at xs k (omega arith)

  pub has_filtered : (f : X → Bool) (xs : List X) (x : X) → Has (filter f xs) x → Has xs x
  has_filtered f [] x has = has
  has_filtered f (y ∷ xs) x has = by_test (f y) has (has_filtered f xs x)
    where
      by_test : (b : Bool) → Has (cond b (y ∷ filter f xs) (filter f xs)) x → (Has (filter f xs) x → Has xs x) → Has (y ∷ xs) x
      by_test true here rest =
          ⊎_elim
          (λ (first : y ≡ x). (0, ap Some first))
          (λ (later : Has (filter f xs) x). has_rest y xs x (rest later))
          (first_or_rest y (filter f xs) x here)
      by_test false here rest = has_rest y xs x (rest here)

  -- the kept items are those for which the test holds
  pub is_kept : (f : X → Bool) (xs : List X) (x : X) → Has (filter f xs) x → f x ≡ true
  is_kept f [] x has = absurd (has_none x has)
  is_kept f (y ∷ xs) x has = by_test (f y) refl has (is_kept f xs x)
    where
      by_test : (b : Bool) → f y ≡ b → Has (cond b (y ∷ filter f xs) (filter f xs)) x → (Has (filter f xs) x → f x ≡ true) → f x ≡ true
      by_test true here some rest =
          ⊎_elim
          (λ (first : y ≡ x). ap f (sym first) ∙ here)
          (λ (later : Has (filter f xs) x). rest later)
          (first_or_rest y (filter f xs) x some)
      by_test false out some rest = rest some

  pub has_kept : (f : X → Bool) (xs : List X) (x : X) → Has xs x → f x ≡ true → Has (filter f xs) x
  has_kept f [] x has test = has
  has_kept f (y ∷ xs) x has test =
      ⊎_elim
      (λ (first : y ≡ x). subst (λ (b : Bool). Has (cond b (y ∷ filter f xs) (filter f xs)) x) (sym (ap f first ∙ test)) (0, ap Some first))
      (λ (rest : Has xs x). by_test (f y) (has_kept f xs x rest test))
      (first_or_rest y xs x has)
    where
      by_test : (b : Bool) → Has (filter f xs) x → Has (cond b (y ∷ filter f xs) (filter f xs)) x
      by_test true some = has_rest y (filter f xs) x some
      by_test false some = some

pub nothing_mapped : {X Y : Type 0} (f : X → Y) (xs : List X) → map f xs ≡ [] → xs ≡ []
nothing_mapped f [] is = refl
nothing_mapped f (x ∷ xs) is = absurd (cc)

pub mapped_at : {X Y : Type 0} (f : X → Y) (xs : List X) (k : ℕ) (x : X) → slice_get xs k ≡ Some x → slice_get (map f xs) k ≡ Some (f x)
mapped_at f xs k x at = slice_get-map f xs k ∙ ap (option_map f) at
