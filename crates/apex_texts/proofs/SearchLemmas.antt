-- A search for a byte finds its first index.
use Rattle.apex_texts.proofs.Common.{◌≡◌, ℕ, zero, suc, ◌<◌, ◌≤◌, ◌&&◌, Bool, true, false, nat_lt, List, [], ◌∷◌, length, get_or, Option, Some, None, refl, sym, ap, ◌∙◌, arith, position, position_or_len, list_all, IsAscii, IsNotAscii, fails_before_first, passes_at_first, is_ascii}
use Rattle.std.specs.Bool.{MatchBool}
use Rattle.std.proofs.lemmas.Bool.Decides.{nat_tests}
use Rattle.memchr.specs.Find.{IsFirstByte}

module _ (p : ℕ → Bool) (xs : List ℕ) where
  none_found : ((k : ℕ) → 0 ≤ k → k < length xs → p (get_or xs k 0) ≡ true → ⊥) → None ≡ position p xs
  none_found nowhere = by_test (nat_lt (position_or_len p xs) (length xs)) refl
    where
      by_test : (b : Bool) → nat_lt (position_or_len p xs) (length xs) ≡ b → None ≡ position p xs
      by_test true is =
          let inside : position_or_len p xs < length xs = grind (arith, nat_tests) in
          absurd (nowhere (position_or_len p xs) (omega arith) inside (passes_at_first p xs 0 inside))
      by_test false is = rw is refl

  one_found : (k : ℕ) → k < length xs → ((j : ℕ) → 0 ≤ j → j < k → p (get_or xs j 0) ≡ true → ⊥) → p (get_or xs k 0) ≡ true → Some k ≡ position p xs
  one_found k inside before passes =
      let not_later : position_or_len p xs ≤ k = not_after (nat_lt k (position_or_len p xs)) refl in
      let within : position_or_len p xs < length xs = omega arith in
      let not_earlier : k ≤ position_or_len p xs = not_before (nat_lt (position_or_len p xs) k) refl within in
      let here : k ≡ position_or_len p xs = omega arith in
      let test : nat_lt (position_or_len p xs) (length xs) ≡ true = grind (arith, nat_tests) in
      rw test (ap Some here)
    where
      not_after : (b : Bool) → nat_lt k (position_or_len p xs) ≡ b → position_or_len p xs ≤ k
      not_after true is =
          let later : k < position_or_len p xs = grind (arith, nat_tests) in
          let fails = fails_before_first p xs k 0 later in
          absurd (cc)
      not_after false is = grind (arith, nat_tests)

      not_before : (b : Bool) → nat_lt (position_or_len p xs) k ≡ b → position_or_len p xs < length xs → k ≤ position_or_len p xs
      not_before true is within =
          let earlier : position_or_len p xs < k = grind (arith, nat_tests) in
          absurd (before (position_or_len p xs) (omega arith) earlier (passes_at_first p xs 0 within))
      not_before false is within = grind (arith, nat_tests)

pub found_is_position : (p : ℕ → Bool) (xs : List ℕ) (found : Option ℕ) → IsFirstByte p xs found → found ≡ position p xs
found_is_position p xs None nowhere = none_found p xs nowhere
found_is_position p xs (Some k) first = one_found p xs k first.0.high first.0.before first.1

-- ---- ASCII

all_ascii : (xs : List ℕ) → IsAscii xs → list_all is_ascii xs ≡ true
all_ascii [] each = refl
all_ascii (x ∷ xs) each =
    let low = each 0 in
    let first : is_ascii x ≡ true = grind (arith, nat_tests) in
    let rest : list_all is_ascii xs ≡ true = all_ascii xs (λ i. each (suc i)) in
    (λ i. first i && rest i)

not_all_ascii : (xs : List ℕ) (i : ℕ) → 128 ≤ get_or xs i 0 → list_all is_ascii xs ≡ false
not_all_ascii [] i high = absurd (omega arith)
not_all_ascii (x ∷ xs) zero high =
    let first : is_ascii x ≡ false = grind (arith, nat_tests) in
    λ i. first i && list_all is_ascii xs
not_all_ascii (x ∷ xs) (suc i) high =
    let rest : list_all is_ascii xs ≡ false = not_all_ascii xs i high in
    (λ j. is_ascii x && rest j) ∙ and_false (is_ascii x)
  where
    and_false : (b : Bool) → (b && false) ≡ false
    and_false true = refl
    and_false false = refl

pub ascii_test : (xs : List ℕ) (b : Bool) → MatchBool b (IsAscii xs) (IsNotAscii xs) → b ≡ list_all is_ascii xs
ascii_test xs true each = sym (all_ascii xs each)
ascii_test xs false some = sym (not_all_ascii xs some.0 some.1)
