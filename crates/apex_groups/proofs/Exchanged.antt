-- Swapped items.
use Rattle.apex_groups.proofs.Common.{◌≡◌, ◌≢◌, ⊎_elim, ℕ, zero, suc, ◌+◌, ◌<◌, ◌≤◌, ◌&&◌, ltb, Bool, true, false, cond, List, [], ◌∷◌, length, set, Option, Some, None, refl, sym, ap, ◌∙◌, subst, arith, replicate, IfOk, Result, Ok, Err, slice_get, unwrap_or, cases_eq, cases_lt, nat_tests, length-set, slice_get_past, AreExchanged, IsPart, list_of}
use Rattle.apex_log_orders.proofs.Counts.{set_here, set_elsewhere}

-- those inside below a number
abbrev pub below : ℕ → (ℕ → Bool) → ℕ → Bool
below count inside p = ltb p count && inside p

pub same_items : {X : Type 0} (xs ys : List X) → ((p : ℕ) → slice_get xs p ≡ slice_get ys p) → xs ≡ ys
same_items [] [] each = refl
same_items [] (y ∷ ys) each = absurd (let first : None ≡ Some y = each 0 in cc)
same_items (x ∷ xs) [] each = absurd (let first : Some x ≡ None = each 0 in cc)
same_items (x ∷ xs) (y ∷ ys) each =
    let first : Some x ≡ Some y = each 0 in
    let rest : xs ≡ ys = same_items xs ys (λ p. each (suc p)) in
    cc

-- ---- one more number

below_more : (i : ℕ) (inside : ℕ → Bool) (p : ℕ) → p ≢ i → below (i + 1) inside p ≡ below i inside p
below_more i inside p apart = ap (λ (b : Bool). b && inside p) (by_test (ltb p i) refl)
  where
    by_test : (b : Bool) → ltb p i ≡ b → ltb p (i + 1) ≡ b
    by_test true is = grind (arith, nat_tests)
    by_test false is = grind (arith, nat_tests)

below_last : (i : ℕ) (inside : ℕ → Bool) → below (i + 1) inside i ≡ inside i
below_last i inside = ap (λ (b : Bool). b && inside i) (let last : ltb i (i + 1) ≡ true = grind (arith, nat_tests) in last)

not_yet : (i : ℕ) (inside : ℕ → Bool) → below i inside i ≡ false
not_yet i inside = ap (λ (b : Bool). b && inside i) (let none : ltb i i ≡ false = grind (arith, nat_tests) in none)

below_all : (count : ℕ) (inside : ℕ → Bool) (p : ℕ) → p < count → below count inside p ≡ inside p
below_all count inside p within = ap (λ (b : Bool). b && inside p) (let is : ltb p count ≡ true = grind (arith, nat_tests) in is)

-- ---- lists, index by index

module _ {X : Type 0} (inside : ℕ → Bool) (xs other : List X) where
  abbrev pub one_of : (p : ℕ) → Bool → Option X
  one_of p b = cond b (slice_get other p) (slice_get xs p)

  module _ (i : ℕ) (now : List X) (is : AreExchanged (below i inside) xs other now) where
    pub exchanged_pass : inside i ≡ false → AreExchanged (below (i + 1) inside) xs other now
    exchanged_pass out = record { count = is.count; each = λ p. is.each p ∙ sym (ap (one_of p) (as_before p)) }
      where
        as_before : (p : ℕ) → below (i + 1) inside p ≡ below i inside p
        as_before p = ⊎_elim
            (λ (same : p ≡ i). subst (λ (n : ℕ). below (i + 1) inside n ≡ below i inside n) (sym same) (below_last i inside ∙ (out ∙ sym (not_yet i inside))))
            (λ (apart : p ≡ i → ⊥). below_more i inside p apart)
            (cases_eq p i)

    pub exchanged_more : (x : X) → inside i ≡ true → i < length now → Some x ≡ slice_get other i → AreExchanged (below (i + 1) inside) xs other (set now i x)
    exchanged_more x here within value = record { count = length-set now i x ∙ is.count; each = λ p. put p }
      where
        put : (p : ℕ) → slice_get (set now i x) p ≡ one_of p (below (i + 1) inside p)
        put p = ⊎_elim
            (λ (same : p ≡ i). subst (λ (n : ℕ). slice_get (set now i x) n ≡ one_of n (below (i + 1) inside n)) (sym same)
            (set_here now i x within ∙ (value ∙ sym (ap (one_of i) (below_last i inside ∙ here)))))
            (λ (apart : p ≡ i → ⊥). set_elsewhere now i x p apart ∙ (is.each p ∙ sym (ap (one_of p) (below_more i inside p apart))))
            (cases_eq p i)

    -- what was not swapped yet
    pub still : slice_get now i ≡ slice_get xs i
    still = is.each i ∙ ap (one_of i) (not_yet i inside)

  pub exchanged_all : (count : ℕ) (now : List X) → length xs ≤ count → length other ≤ count → AreExchanged (below count inside) xs other now → AreExchanged inside xs other now
  exchanged_all count now few few_too is = record { count = is.count; each = λ p. is.each p ∙ in_all p }
    where
      in_all : (p : ℕ) → one_of p (below count inside p) ≡ one_of p (inside p)
      in_all p = ⊎_elim
          (λ (within : p < count). ap (one_of p) (below_all count inside p within))
          (λ (beyond : count ≤ p). nothing beyond (below count inside p) ∙ sym (nothing beyond (inside p)))
          (cases_lt p count)
        where
          nothing : count ≤ p → (b : Bool) → one_of p b ≡ None
          nothing beyond true = slice_get_past other p (omega (arith, few_too, beyond))
          nothing beyond false = slice_get_past xs p (omega (arith, few, beyond))

  -- swapped twice
  pub exchanged_back : (one two back : List X) → AreExchanged inside xs other one → AreExchanged inside other xs two → AreExchanged inside one two back → back ≡ xs
  exchanged_back one two back first second third = same_items back xs (λ p. third.each p ∙ by_test p (inside p) (first.each p) (second.each p))
    where
      by_test : (p : ℕ) (b : Bool) → slice_get one p ≡ cond b (slice_get other p) (slice_get xs p) → slice_get two p ≡ cond b (slice_get xs p) (slice_get other p) → cond b (slice_get two p) (slice_get one p) ≡ slice_get xs p
      by_test p true one_is two_is = two_is
      by_test p false one_is two_is = one_is

-- ---- lists put where there are no items

no_items : {X : Type 0} (count p : ℕ) → list_of {X = X} (replicate count []) p ≡ []
no_items zero p = refl
no_items (suc count) zero = refl
no_items (suc count) (suc p) = no_items count p

pub put_in : {X : Type 0} (inside : ℕ → Bool) (lists : List (List X)) (count : ℕ) (part : List (List X)) → AreExchanged inside (replicate count []) lists part → IsPart inside lists part
put_in {X} inside lists count part is p = by_test (inside p) (is.each p)
  where
    by_test : (b : Bool) → slice_get part p ≡ cond b (slice_get lists p) (slice_get (replicate count []) p) → list_of part p ≡ cond b (list_of lists p) []
    by_test true at = ap (λ (o : Option (List X)). unwrap_or o []) at
    by_test false at = ap (λ (o : Option (List X)). unwrap_or o []) at ∙ no_items count p

-- past the end there is no list
pub no_list : {X : Type 0} (lists : List (List X)) (p : ℕ) → length lists ≤ p → list_of lists p ≡ []
no_list {X} lists p beyond = ap (λ (o : Option (List X)). unwrap_or o []) (slice_get_past lists p beyond)

module _ {X : Type 0} (inside : ℕ → Bool) (lists part : List (List X)) (is : IsPart inside lists part) where
  pub here_inside : (p : ℕ) → inside p ≡ true → list_of part p ≡ list_of lists p
  here_inside p here = is p ∙ ap (λ (b : Bool). cond b (list_of lists p) []) here

  pub none_outside : (p : ℕ) → inside p ≡ false → list_of part p ≡ []
  none_outside p out = is p ∙ ap (λ (b : Bool). cond b (list_of lists p) []) out

-- for a result without an error
pub of_ok : {X E : Type 0} (P Q : X → Type 0) (result : Result X E) → ((x : X) → P x → Q x) → IfOk result P → IfOk result Q
of_ok P Q (Ok x) goes holds = goes x holds
of_ok P Q (Err e) goes holds = holds
