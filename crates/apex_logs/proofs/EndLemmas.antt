-- A line whose first byte that isn't blank is no `a` doesn't end the calls.
use Rattle.apex_logs.proofs.Common.{◌≡◌, ℕ, zero, suc, ◌<◌, false, not, eqb, List, [], ◌∷◌, length, take, drop, get_or, Option, Some, None, refl, sym, ap, ◌∙◌, arith, add-zero, codes, position, is_blank, words_of, from_word, word_some, words_at, words_last, begin_with_after, ends_calls}
use Rattle.std.specs.Str.{bytes_eq}
use Rattle.std.proofs.lemmas.List.{get_or-drop}

other_word : (byte : ℕ) (rest : List ℕ) → eqb byte 97 ≡ false → bytes_eq (byte ∷ rest) (codes "after") ≡ false
other_word byte rest other = rw other refl

by_end : (byte : ℕ) (rest : List ℕ) (end : Option ℕ) → position is_blank (byte ∷ rest) ≡ end → is_blank byte ≡ false → eqb byte 97 ≡ false → begin_with_after (words_of (byte ∷ rest)) ≡ false
by_end byte rest None missed word other =
    ap begin_with_after (words_last (byte ∷ rest) (omega arith) word missed) ∙ other_word byte rest other
by_end byte rest (Some zero) found word other = absurd (omega (arith, word_some (byte ∷ rest) zero (omega arith) word found))
by_end byte rest (Some (suc n)) found word other =
    ap begin_with_after (words_at (byte ∷ rest) (suc n) (omega arith) word found) ∙ other_word byte (take n rest) other

by_first : (rest : List ℕ) → 0 < length rest → is_blank (get_or rest 0 0) ≡ false → eqb (get_or rest 0 0) 97 ≡ false → begin_with_after (words_of rest) ≡ false
by_first [] some word other = absurd (omega arith)
by_first (byte ∷ rest) some word other = by_end byte rest (position is_blank (byte ∷ rest)) refl word other

pub goes_on : (line : List ℕ) (start : ℕ) → position (λ byte. not (is_blank byte)) line ≡ Some start → eqb (get_or line start 0) 97 ≡ false → ends_calls line ≡ false
goes_on line start found other =
    let from = from_word line (drop start line) start found refl in
    let first : eqb (get_or (drop start line) 0 0) 97 ≡ false = rw (get_or-drop, add-zero) other in
    ap begin_with_after (sym from.same) ∙ by_first (drop start line) from.some from.word first
