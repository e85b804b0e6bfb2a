-- The byte of two digits, by its sum.
use Rattle.std.proofs.Common.{◌≡◌, ℕ, ◌+◌, ◌*◌, ◌<◌, ◌≤◌, Option, Some, None, Ok, Err, unwrap_or, refl, ap, arith}
use Rattle.hex.specs.Hex.{hex_digit_value, pair_value}
use Rattle.hex.specs.declared.error.FromHexError.{FromHexError}
use Rattle.hex.specs.declared.error.FromHexError.TheVariants.{InvalidHexCharacter}

small : (c v : ℕ) → hex_digit_value c ≡ Some v → v < 16
small c v h = grind (arith)

good_by : (a b i : ℕ) (high low : Option ℕ) → hex_digit_value a ≡ high → hex_digit_value b ≡ low → 16 * unwrap_or high 256 + unwrap_or low 256 ≤ 255
    → pair_value a b i ≡ Ok (16 * unwrap_or high 256 + unwrap_or low 256)
good_by a b i (Some high) (Some low) first second fits =
    let same : high * 16 + low ≡ 16 * high + low = omega arith in
    rw (first, second) (ap Ok same)
good_by a b i (Some high) None first second fits = absurd (omega arith)
good_by a b i None low first second fits = absurd (omega arith)

-- two digits
pub pair_good : (a b i : ℕ) → 16 * unwrap_or (hex_digit_value a) 256 + unwrap_or (hex_digit_value b) 256 ≤ 255
    → pair_value a b i ≡ Ok (16 * unwrap_or (hex_digit_value a) 256 + unwrap_or (hex_digit_value b) 256)
pair_good a b i fits = good_by a b i (hex_digit_value a) (hex_digit_value b) refl refl fits

bad_by : (a b i : ℕ) (high low : Option ℕ) → hex_digit_value a ≡ high → hex_digit_value b ≡ low → 255 < 16 * unwrap_or high 256 + unwrap_or low 256
    → (e : FromHexError) × (pair_value a b i ≡ Err e)
bad_by a b i (Some high) (Some low) first second more = absurd (omega (arith, small a high first, small b low second))
bad_by a b i (Some high) None first second more = (InvalidHexCharacter b (i + 1), rw (first, second) refl)
bad_by a b i None low first second more = (InvalidHexCharacter a i, rw first refl)

-- two characters that are not both digits
pub pair_bad : (a b i : ℕ) → 255 < 16 * unwrap_or (hex_digit_value a) 256 + unwrap_or (hex_digit_value b) 256
    → (e : FromHexError) × (pair_value a b i ≡ Err e)
pair_bad a b i more = bad_by a b i (hex_digit_value a) (hex_digit_value b) refl refl more
