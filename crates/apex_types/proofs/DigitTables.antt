-- The tables of digits, held against the definitions at each of the 256 bytes, by computing.
use Rattle.std.proofs.Common.{◌≡◌, ℕ, zero, suc, ◌+◌, ◌*◌, ◌/◌, ◌%◌, ◌<◌, ◌≤◌, Bool, true, ◌&&◌, ◌==◌, get_or, unwrap_or, refl, arith, inl, inr}
use Rattle.std.proofs.lemmas.Bool.{and_parts, cases_eq, eqb-true}
use Rattle.hex.specs.Hex.{hex_digit_value, lower_digits}
use Rattle.apex_types.specs.declared.digits.TheConstants.{VALUES, PAIRS}

-- the two functions agree below n
agree_below : (ℕ → ℕ) → (ℕ → ℕ) → ℕ → Bool
agree_below f g zero = true
agree_below f g (suc n) = (f n == g n) && agree_below f g n

agree_at : (f g : ℕ → ℕ) (n : ℕ) → agree_below f g n ≡ true → (b : ℕ) → b < n → f b ≡ g b
unfolding agree_below
agree_at f g zero h b lt = absurd (omega arith)
agree_at f g (suc n) h b lt =
    let both = and_parts (f n == g n) (agree_below f g n) h in
    elim (cases_eq b n) [
      | inl same ↦ rw same (eqb-true (f n) (g n) both.0)
      | inr other ↦ agree_at f g n both.1 b (omega arith)
    ]

-- the value of a digit
pub values_at : (b : ℕ) → b < 256 → get_or VALUES b 0 ≡ unwrap_or (hex_digit_value b) 256
unfolding agree_below
values_at b lt = agree_at (λ k. get_or VALUES k 0) (λ k. unwrap_or (hex_digit_value k) 256) 256 refl b lt

-- no value is more than 256
pub values_small : (b : ℕ) → b < 256 → get_or VALUES b 0 ≤ 256
values_small b lt =
    let is = values_at b lt in
    grind (arith, is)

-- the first digit of a byte
pub pairs_first : (b : ℕ) → b < 256 → get_or PAIRS (2 * b) 0 ≡ get_or lower_digits (b / 16) 0
unfolding agree_below
pairs_first b lt = agree_at (λ k. get_or PAIRS (2 * k) 0) (λ k. get_or lower_digits (k / 16) 0) 256 refl b lt

-- the second digit of a byte
pub pairs_second : (b : ℕ) → b < 256 → get_or PAIRS (2 * b + 1) 0 ≡ get_or lower_digits (b % 16) 0
unfolding agree_below
pairs_second b lt = agree_at (λ k. get_or PAIRS (2 * k + 1) 0) (λ k. get_or lower_digits (k % 16) 0) 256 refl b lt
