-- The words and numbers of a line. The lines of a text are std's `lines`.
use Rattle.std.specs.Prelude.{ℕ, Bool, ◌+◌, ◌*◌, ◌-◌, ◌==◌, ◌||◌, ◌&&◌, not, nat_le, if◌then◌else◌, List, [], ◌∷◌, length, filter, Option, Some, None}
use Rattle.apex_texts.specs.Prelude.{slice_split}

-- a line feed
abbrev pub is_line_feed : ℕ → Bool
is_line_feed byte = byte == 10

-- a space or a tab
abbrev pub is_blank : ℕ → Bool
is_blank byte = (byte == 32) || (byte == 9)

-- the nonempty parts between blanks
abbrev pub words_of : List ℕ → List (List ℕ)
words_of line = filter (λ part. not (length part == 0)) (slice_split is_blank line)

-- a decimal digit
abbrev pub is_digit : ℕ → Bool
is_digit byte = nat_le 48 byte && nat_le byte 57

-- the number that the digits before gave, followed by these
abbrev pub digits_after : ℕ → List ℕ → Option ℕ
digits_after value [] = Some value
digits_after value (byte ∷ rest) = if is_digit byte then digits_after (value * 10 + (byte - 48)) rest else None

-- the number, if it is at most the limit
abbrev pub at_most : ℕ → Option ℕ → Option ℕ
at_most limit None = None
at_most limit (Some number) = if nat_le number limit then Some number else None

-- the number that a word of one or more decimal digits gives; leading zeros are allowed
abbrev pub number_up_to : ℕ → List ℕ → Option ℕ
number_up_to limit word = if length word == 0 then None else at_most limit (digits_after 0 word)
