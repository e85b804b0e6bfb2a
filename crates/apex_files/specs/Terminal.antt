-- How a text is written to a terminal: control characters as escapes.
use Rattle.std.specs.Prelude.{ℕ, Bool, false, nat_lt, nat_le, ◌&&◌, ◌||◌, ◌==◌, not, ◌++◌, ◌/◌, ◌%◌, if◌then◌else◌, List, [], ◌∷◌, Option, None, codes}
use Rattle.std.specs.Fmt.{digit_glyph}

-- what is known about an output that may be a terminal: nothing if it is one, since some bytes are changed
abbrev pub contents_of : Bool → Option (List ℕ) → Option (List ℕ)
contents_of is_terminal contents = if is_terminal then None else contents

-- a control character of one byte, other than the tab (9) and the newline (10)
abbrev pub is_control : ℕ → Bool
is_control byte = (nat_lt byte 32 && not (byte == 9) && not (byte == 10)) || (byte == 127)

-- the second byte of U+0080 to U+009F, whose first byte is 194; other characters have it after other first bytes
abbrev pub is_second_byte : ℕ → Bool
is_second_byte byte = nat_le 128 byte && nat_lt byte 160

abbrev pub begins_second_byte : List ℕ → Bool
begins_second_byte [] = false
begins_second_byte (byte ∷ rest) = is_second_byte byte

-- whether a byte is escaped after one byte (0 at the start) and before others; no other byte of a text in UTF-8 is part of
-- a control character
abbrev pub is_escaped : ℕ → ℕ → List ℕ → Bool
is_escaped before byte after =
    is_control byte || (byte == 194 && begins_second_byte after) || (is_second_byte byte && (nat_lt before 128 || before == 194))

-- a byte as \x and two hexadecimal digits
abbrev pub escape : ℕ → List ℕ
escape byte = codes "\\x" ++ digit_glyph false (byte / 16) ∷ digit_glyph false (byte % 16) ∷ []

-- the rest of a text after a byte, with its escapes
unfoldable pub escaped_after : ℕ → List ℕ → List ℕ
escaped_after before [] = []
escaped_after before (byte ∷ rest) = (if is_escaped before byte rest then escape byte else byte ∷ []) ++ escaped_after byte rest

-- a text as it is written to a terminal
abbrev pub escaped : List ℕ → List ℕ
escaped text = escaped_after 0 text

-- a text as it is written to an output, which may be a terminal
abbrev pub shown : Bool → List ℕ → List ℕ
shown is_terminal text = if is_terminal then escaped text else text
