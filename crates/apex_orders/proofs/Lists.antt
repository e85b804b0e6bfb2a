-- Indexes of lists.
use Rattle.std.specs.Prelude.{set, slice_set}
use Rattle.std.proofs.lemmas.List.{get_or_append_left, get_or-append_right}
use Rattle.apex_orders.proofs.Common.{◌≡◌, ◌⊎◌, inl, inr, ⊎_elim, ℕ, zero, suc, ◌+◌, ◌-◌, ◌<◌, ◌≤◌, List, [], ◌∷◌, ◌++◌, length, take, drop, Some, None, refl, sym, subst, ap, ◌∙◌, arith, slice_get, get_or, get_or-set_same, length-append, cases_lt, Has}

-- the items other than the one that was set
pub set_elsewhere : {X : Type 0} (xs : List X) (i : ℕ) (y : X) (k : ℕ) → (k ≡ i → ⊥) → slice_get (set xs i y) k ≡ slice_get xs k
set_elsewhere [] i y k other = refl
set_elsewhere (z ∷ xs) zero y zero other = absurd (other refl)
set_elsewhere (z ∷ xs) zero y (suc k) other = refl
set_elsewhere (z ∷ xs) (suc i) y zero other = refl
set_elsewhere (z ∷ xs) (suc i) y (suc k) other = set_elsewhere xs i y k (λ same. other (ap suc same))

pub at_seam : {X : Type 0} (xs : List X) (x : X) (ys : List X) → slice_get (xs ++ x ∷ ys) (length xs) ≡ Some x
at_seam [] x ys = refl
at_seam (y ∷ xs) x ys = at_seam xs x ys

pub stays_before : {X : Type 0} (xs ys : List X) (k : ℕ) (x : X) → slice_get xs k ≡ Some x → slice_get (xs ++ ys) k ≡ Some x
stays_before [] ys k x at = absurd (cc)
stays_before (y ∷ xs) ys zero x at = at
stays_before (y ∷ xs) ys (suc k) x at = stays_before xs ys k x at

pub at_behind : {X : Type 0} (xs ys : List X) (k : ℕ) → slice_get (xs ++ ys) (length xs + k) ≡ slice_get ys k
at_behind {X} [] ys k = let index : length {A = X} [] + k ≡ k = omega arith in ap (λ (n : ℕ). slice_get ys n) index
at_behind {X} (x ∷ xs) ys k =
    let index : length (x ∷ xs) + k ≡ suc (length xs + k) = omega arith in
    ap (λ (n : ℕ). slice_get (x ∷ (xs ++ ys)) n) index ∙ at_behind xs ys k

pub before_or_last : {X : Type 0} (xs : List X) (x : X) (k : ℕ) (y : X) → slice_get (xs ++ x ∷ []) k ≡ Some y → (slice_get xs k ≡ Some y) ⊎ ((k ≡ length xs) × (x ≡ y))
before_or_last [] x zero y at = inr (refl, cc)
before_or_last [] x (suc k) y at = absurd (cc)
before_or_last (z ∷ xs) x zero y at = inl at
before_or_last (z ∷ xs) x (suc k) y at =
    ⊎_elim
    (λ (h : slice_get xs k ≡ Some y). inl h)
    (λ (h : (k ≡ length xs) × (x ≡ y)). inr (ap suc h.0, h.1))
    (before_or_last xs x k y at)

pub take_one_more : {X : Type 0} (xs : List X) (n : ℕ) (x : X) → slice_get xs n ≡ Some x → take (suc n) xs ≡ take n xs ++ x ∷ []
take_one_more [] n x at = absurd (cc)
take_one_more (y ∷ xs) zero x at = let same : y ≡ x = cc in ap (λ z. z ∷ []) same
take_one_more (y ∷ xs) (suc n) x at = ap (λ zs. y ∷ zs) (take_one_more xs n x at)

pub taken_from : {X : Type 0} (n : ℕ) (xs : List X) (k : ℕ) (x : X) → slice_get (take n xs) k ≡ Some x → slice_get xs k ≡ Some x
taken_from zero xs k x at = absurd (cc)
taken_from (suc n) [] k x at = absurd (cc)
taken_from (suc n) (y ∷ xs) zero x at = at
taken_from (suc n) (y ∷ xs) (suc k) x at = taken_from n xs k x at

pub none_past : {X : Type 0} (xs : List X) (n : ℕ) → slice_get xs n ≡ None → length xs ≤ n
none_past [] n at = omega arith
none_past (x ∷ xs) zero at = absurd (cc)
none_past (x ∷ xs) (suc n) at = let rest = none_past xs n at in omega arith

-- the same items follow two lists of one length
pub past_both : {X : Type 0} (xs ys more : List X) (k : ℕ) → length xs ≡ length ys → length xs ≤ k → slice_get (xs ++ more) k ≡ slice_get (ys ++ more) k
past_both [] [] more k count past = refl
past_both [] (y ∷ ys) more k count past = absurd (omega arith)
past_both (x ∷ xs) [] more k count past = absurd (omega arith)
past_both (x ∷ xs) (y ∷ ys) more zero count past = absurd (omega arith)
past_both (x ∷ xs) (y ∷ ys) more (suc k) count past = past_both xs ys more k (omega arith) (omega arith)

-- lists of one length with the same items at each index are equal
pub same_items : {X : Type 0} (xs ys : List X) → length xs ≡ length ys → ((k : ℕ) → k < length xs → slice_get xs k ≡ slice_get ys k) → xs ≡ ys
same_items [] [] count each = refl
same_items [] (y ∷ ys) count each = absurd (omega arith)
same_items (x ∷ xs) [] count each = absurd (omega arith)
same_items (x ∷ xs) (y ∷ ys) count each =
    let first : Some x ≡ Some y = each 0 (omega arith) in
    let head : x ≡ y = cc in
    let rest : xs ≡ ys = same_items xs ys (omega arith) (λ k within. each (suc k) (omega arith)) in
    cc

-- ---- one more item

-- an item is one of those before, or the one that was inserted
pub of_inserted : {X : Type 0} (xs : List X) (n : ℕ) (y : X) (k : ℕ) (x : X) → slice_get (take n xs ++ y ∷ drop n xs) k ≡ Some x → Has xs x ⊎ (y ≡ x)
of_inserted xs zero y zero x at = inr cc
of_inserted xs zero y (suc k) x at = inl (k, at)
of_inserted [] (suc n) y zero x at = inr cc
of_inserted [] (suc n) y (suc k) x at = absurd (cc)
of_inserted (z ∷ xs) (suc n) y zero x at = inl (0, at)
of_inserted (z ∷ xs) (suc n) y (suc k) x at =
    ⊎_elim
    (λ (has : Has xs x). inl (suc has.0, has.1))
    (λ (is : y ≡ x). inr is)
    (of_inserted xs n y k x at)

-- items of the same number take the place of all
pub all_replaced : {X : Type 0} (xs ys : List X) (n : ℕ) → length ys ≡ length xs → n ≡ length xs → take n (ys ++ drop (length ys) xs) ≡ ys
all_replaced {X} xs ys n same all = ap (λ (m : ℕ). take m (ys ++ drop (length ys) xs)) all ∙ by_items xs ys same
  where
    by_items : (us vs : List X) → length vs ≡ length us → take (length us) (vs ++ drop (length vs) us) ≡ vs
    by_items [] [] count = refl
    by_items [] (v ∷ vs) count = absurd (omega (arith, count))
    by_items (u ∷ us) [] count = absurd (omega (arith, count))
    by_items (u ∷ us) (v ∷ vs) count = ap (λ (rest : List X). v ∷ rest) (by_items us vs (omega (arith, count)))

-- ---- the last item kept apart

-- what relates the items before the last one, and the last ones, relates all
pub with_last : {X : Type 0} (R : ℕ → X → X → Type 0) (n : ℕ) (all front front' back : List X) (x y : X)
    → all ≡ front ++ back → length front ≡ n → length front' ≡ length front → length back ≡ 1
    → ((d : X) → get_or back 0 d ≡ x)
    → ((i : ℕ) (d : X) → i < length front → R i (get_or front i d) (get_or front' i d))
    → R n x y
    → (i : ℕ) (d : X) → i < length all
    → (get_or (front' ++ slice_set back 0 y) i d ≡ get_or (front' ++ slice_set back 0 y) i d) × R i (get_or all i d) (get_or (front' ++ slice_set back 0 y) i d)
with_last {X} R n all front front' back x y is count same one first each last i d within = (
  refl,
  ⊎_elim
      (λ (below : i < n).
      let old = ap (λ (l : List X). get_or l i d) is ∙ get_or_append_left front back d i (omega (arith, below, count)) in
      let new = get_or_append_left front' (slice_set back 0 y) d i (omega (arith, below, count, same)) in
      subst (λ u. R i u (get_or (front' ++ slice_set back 0 y) i d)) (sym old)
      (subst (R i (get_or front i d)) (sym new) (each i d (omega (arith, below, count)))))
      (λ (above : n ≤ i).
      let at : n ≡ i = omega (arith, above, within, ap length is, length-append front back, count, one) in
      let none : i - n ≡ 0 = omega (arith, at) in
      let old = ap (λ (l : List X). get_or l i d) is ∙ get_or-append_right front back n i d count above ∙ ap (λ k. get_or back k d) none ∙ first d in
      let new = get_or-append_right front' (slice_set back 0 y) n i d (same ∙ count) above ∙ ap (λ k. get_or (slice_set back 0 y) k d) none
      ∙ get_or-set_same back 0 y d (omega (arith, one)) in
      subst (λ u. R i u (get_or (front' ++ slice_set back 0 y) i d)) (sym old)
      (subst (R i x) (sym new) (subst (λ k. R k x y) at last)))
      (cases_lt i n),
)
