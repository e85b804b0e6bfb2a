-- Text in an SVG.
use Rattle.std.specs.Prelude.{ℕ, ◌==◌, if◌then◌else◌, List, codes}
use Rattle.std.specs.Char.{encode_utf8}
use Rattle.std.specs.List.{flat_map}
use Rattle.std.specs.Str.{chars}

-- a character, or its escape: `&`, `<`, `>` and `"` would end the text or begin something else
abbrev pub escaped_char : ℕ → List ℕ
escaped_char character =
    if character == 38 then codes "&amp;"
    else if character == 60 then codes "&lt;"
    else if character == 62 then codes "&gt;"
    else if character == 34 then codes "&quot;"
    else encode_utf8 character

-- a text, character by character
abbrev pub escaped : List ℕ → List ℕ
escaped text = flat_map escaped_char (chars text)
