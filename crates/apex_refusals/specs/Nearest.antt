-- The known word that is nearest to a word.
use Rattle.std.specs.Prelude.{ℕ, ◌≡◌, ◌≤◌, ◌+◌, nat_le, nat_lt, if◌then◌else◌, List, [], ◌∷◌, map, length, slice_get, Option, Some, None, nat_eq}
use Rattle.std.specs.Char.{to_ascii_lowercase}
use Rattle.apex_refusals.specs.declared.known_word.TheConstants.{WORD_LIMIT}
use Rattle.strsim.specs.Edits.{levenshtein_row}

-- a word in lower case
abbrev pub small : List ℕ → List ℕ
small word = map to_ascii_lowercase word

-- the number of letters to insert, remove or replace, ignoring case
unfoldable pub edits : List ℕ → List ℕ → ℕ
edits word known = levenshtein_row nat_eq (small word) (small known) (length (small known))

-- the maximum number of edits for a mistyped word: one for a short word, two for another
abbrev pub most_edits : List ℕ → ℕ
most_edits word = if nat_le (length word) 3 then 1 else 2

-- every known word is at least this number of edits away
abbrev pub EachIsFrom : ℕ → List ℕ → List (List ℕ) → Type 0
EachIsFrom least word known = (i : ℕ) (other : List ℕ) → slice_get known i ≡ Some other → least ≤ edits word other

-- one of the known words, with no more edits than a mistyped word may have or than any other needs; none if all are
-- farther
abbrev pub IsNearest : List ℕ → List (List ℕ) → Option (List ℕ) → Type 0
IsNearest word known None = EachIsFrom (most_edits word + 1) word known
IsNearest word known (Some found) = (edits word found ≤ most_edits word) × EachIsFrom (edits word found) word known

-- the first known word with the fewest edits, fewer than this number, or else what was found before
abbrev pub nearest_from : List ℕ → List (List ℕ) → ℕ → Option (List ℕ) → Option (List ℕ)
nearest_from word [] least found = found
nearest_from word (other ∷ others) least found =
    if nat_lt (edits word other) least then nearest_from word others (edits word other) (Some other) else nearest_from word others least found

-- the known word that is suggested; none for a word that is too long
unfoldable pub nearest_of : List ℕ → List (List ℕ) → Option (List ℕ)
nearest_of word known = if nat_le (length word) WORD_LIMIT then nearest_from word known (most_edits word + 1) None else None
