-- Numbers that grow past the limit.
use Rattle.apex_texts.proofs.Common.{◌≡◌, ℕ, suc, ◌+◌, ◌*◌, ◌-◌, ◌<◌, Bool, true, false, leb, cond, List, [], ◌∷◌, length, drop, get_or, None, refl, sym, ap, ◌∙◌, arith, drop-cons, is_digit, digits_after, at_most}

stays : (limit value byte : ℕ) (b : Bool) (rest : List ℕ) → at_most limit (digits_after (value * 10 + (byte - 48)) rest) ≡ None
    → at_most limit (cond b (digits_after (value * 10 + (byte - 48)) rest) None) ≡ None
stays limit value byte true rest h = h
stays limit value byte false rest h = refl

-- a number that is too great stays too great with further digits
pub stays_great : (word : List ℕ) (limit value : ℕ) → limit < value → at_most limit (digits_after value word) ≡ None
stays_great [] limit value great =
    let above : leb value limit ≡ false = grind (arith, great) in
    rw above refl
stays_great (byte ∷ rest) limit value great = stays limit value byte (is_digit byte) rest (stays_great rest limit (value * 10 + (byte - 48)) (omega arith))

-- the digit at an index makes the number too great
pub grows_great : (limit value i : ℕ) (word : List ℕ) → i < length word → is_digit (get_or word i 0) ≡ true → limit < value * 10 + (get_or word i 0 - 48)
    → digits_after value (drop i word) ≡ digits_after 0 word → at_most limit (digits_after 0 word) ≡ None
grows_great limit value i word inside digit great so_far =
    let first : drop i word ≡ get_or word i 0 ∷ drop (suc i) word = drop-cons word i 0 inside in
    let step : digits_after value (get_or word i 0 ∷ drop (suc i) word) ≡ digits_after (value * 10 + (get_or word i 0 - 48)) (drop (suc i) word) = rw digit refl in
    ap (at_most limit) (sym so_far ∙ ap (digits_after value) first ∙ step) ∙ stays_great (drop (suc i) word) limit (value * 10 + (get_or word i 0 - 48)) great
