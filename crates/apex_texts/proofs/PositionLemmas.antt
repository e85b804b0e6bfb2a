-- Where the first element that passes is, in a list that is cut in two.
use Rattle.apex_texts.proofs.Common.{◌≡◌, ℕ, ◌+◌, ◌<◌, ◌≤◌, Bool, true, false, nat_lt, List, [], ◌∷◌, ◌++◌, length, Option, Some, None, refl, sym, ap, ◌∙◌, arith, length-append, position, option_map, MatchOption, position_or_len}
use Rattle.std.proofs.lemmas.Bool.Decides.{nat_tests}
use Rattle.apex_texts.proofs.TextLemmas.{position_found, position_missed}

module _ {X : Type 0} (p : X → Bool) where
  early_by : (x : X) (xs ys : List X) (b : Bool) → p x ≡ b → position_or_len p (x ∷ xs) < length (x ∷ xs) → (position_or_len p xs < length xs → position_or_len p (xs ++ ys) ≡ position_or_len p xs) → position_or_len p (x ∷ (xs ++ ys)) ≡ position_or_len p (x ∷ xs)
  early_by x xs ys true is h rest = rw is refl
  early_by x xs ys false is h rest =
      let later : position_or_len p (x ∷ xs) ≡ 1 + position_or_len p xs = rw is (omega arith) in
      let shorter : position_or_len p xs < length xs = omega (arith, h, later) in
      let same = rest shorter in
      let after : position_or_len p (x ∷ (xs ++ ys)) ≡ 1 + position_or_len p (xs ++ ys) = rw is (omega arith) in
      omega (arith, same, later, after)

  early : (xs ys : List X) → position_or_len p xs < length xs → position_or_len p (xs ++ ys) ≡ position_or_len p xs
  early [] ys h = absurd (omega arith)
  early (x ∷ xs) ys h = early_by x xs ys (p x) refl h (early xs ys)

  late_by : (x : X) (xs ys : List X) (b : Bool) → p x ≡ b → length (x ∷ xs) ≤ position_or_len p (x ∷ xs) → (length xs ≤ position_or_len p xs → position_or_len p (xs ++ ys) ≡ length xs + position_or_len p ys) → position_or_len p (x ∷ (xs ++ ys)) ≡ length (x ∷ xs) + position_or_len p ys
  late_by x xs ys true is h rest =
      let here : position_or_len p (x ∷ xs) ≡ 0 = rw is refl in
      absurd (omega (arith, h, here))
  late_by x xs ys false is h rest =
      let later : position_or_len p (x ∷ xs) ≡ 1 + position_or_len p xs = rw is (omega arith) in
      let shorter : length xs ≤ position_or_len p xs = omega (arith, h, later) in
      let same = rest shorter in
      let after : position_or_len p (x ∷ (xs ++ ys)) ≡ 1 + position_or_len p (xs ++ ys) = rw is (omega arith) in
      omega (arith, same, after)

  late : (xs ys : List X) → length xs ≤ position_or_len p xs → position_or_len p (xs ++ ys) ≡ length xs + position_or_len p ys
  late [] ys h = omega arith
  late (x ∷ xs) ys h = late_by x xs ys (p x) refl h (late xs ys)

  -- one that passes in the first part is the first of all
  pub in_front : (xs ys : List X) (k : ℕ) → position p xs ≡ Some k → position p (xs ++ ys) ≡ Some k
  in_front xs ys k found =
      let at = position_found p xs k found in
      let same = early xs ys at.0 in
      let within : nat_lt (position_or_len p (xs ++ ys)) (length (xs ++ ys)) ≡ true = grind (arith, nat_tests, length-append xs ys, at.0, same) in
      rw within (ap Some (same ∙ sym at.1))

  -- if none passes in the first part, it is the first of the second part
  pub behind : (xs ys : List X) (found : Option ℕ) → position p xs ≡ None → position p ys ≡ found → position p (xs ++ ys) ≡ option_map (λ k. length xs + k) found
  behind xs ys None missed nowhere =
      let same = late xs ys (position_missed p xs missed) in
      let none = position_missed p ys nowhere in
      let beyond : nat_lt (position_or_len p (xs ++ ys)) (length (xs ++ ys)) ≡ false = grind (arith, nat_tests, length-append xs ys, same, none) in
      rw beyond refl
  behind xs ys (Some k) missed found =
      let same = late xs ys (position_missed p xs missed) in
      let at = position_found p ys k found in
      let within : nat_lt (position_or_len p (xs ++ ys)) (length (xs ++ ys)) ≡ true = grind (arith, nat_tests, length-append xs ys, same, at.0) in
      rw within (ap Some (same ∙ ap (λ (n : ℕ). length xs + n) (sym at.1)))

  none_of : (ys : List X) → length ys ≡ 0 → position p ys ≡ None
  none_of [] empty = refl
  none_of (y ∷ ys) empty = absurd (omega arith)

  -- what is found in the first part is the first of all; if that is the whole, there is no other
  pub front_found : (xs ys zs : List X) (found : Option ℕ) (n : ℕ) → xs ++ ys ≡ zs → (length zs ≤ n → length xs ≡ length zs) → found ≡ position p xs
      → MatchOption found (length zs ≤ n → position p zs ≡ None) (λ at. position p zs ≡ Some at)
  front_found xs ys zs (Some at) n whole size is = sym (ap (position p) whole) ∙ in_front xs ys at (sym is)
  front_found xs ys zs None n whole size is = λ short.
      let same = size short in
      let sum : length xs + length ys ≡ length zs = sym (length-append xs ys) ∙ ap length whole in
      sym (ap (position p) whole) ∙ behind xs ys None (sym is) (none_of ys (omega (arith, same, sum)))
