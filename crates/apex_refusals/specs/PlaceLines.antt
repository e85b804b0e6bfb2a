-- The line of a text on which a part of its document begins.
use Rattle.std.specs.Prelude.{ℕ, ◌≡◌, ◌≤◌, ◌+◌, ◌-◌, ◌==◌, Bool, true, false, if◌then◌else◌, List, [], ◌∷◌, ◌++◌, length, take, slice_index_or, codes, Option, Some, None}
use Rattle.std.specs.Option.{option_or}
use Rattle.toml.specs.Data.{Data}
use Rattle.apex_config.specs.declared.place.Part.{Part}
use Rattle.apex_config.specs.declared.place.Place.{Place}
use Rattle.apex_config.specs.Meaning.{document_of}
use Rattle.apex_refusals.specs.Places.{key_at, document_has}
use Rattle.apex_refusals.specs.declared.line_of.TheConstants.{SEARCH_LIMIT}

-- ---- lines

-- where the lines of a text end if its first byte has this offset: at each newline, and where the text ends
abbrev pub line_ends : ℕ → List ℕ → List ℕ
line_ends offset [] = offset ∷ []
line_ends offset (byte ∷ rest) = if byte == 10 then offset ∷ line_ends (offset + 1) rest else line_ends (offset + 1) rest

-- a text up to the end of the line of this number, from 1
abbrev pub first_lines : ℕ → List ℕ → List ℕ
first_lines number text = take (slice_index_or (line_ends 0 text) (number - 1) (length text)) text

-- ---- what is in them

-- the document of the beginning of a text: as it is, or with the open array of tables closed, or with one inside
-- another closed
abbrev pub document_in : List ℕ → Option Data
document_in begin =
    option_or (document_of begin) (option_or (document_of (begin ++ codes "\n]")) (document_of (begin ++ codes "\n]}]")))

abbrev pub has_part : Option Data → Part → Option (List ℕ) → Bool
has_part None part key = false
has_part (Some document) part key = document_has document part key

-- whether the beginning of a text has the part, or the key in it
abbrev pub beginning_has : List ℕ → Part → Option (List ℕ) → Bool
beginning_has begin part key = has_part (document_in begin) part key

-- ---- the line of a place

-- the text up to this line has the place, and the text before it doesn't
pub record BeginsOnLine (text : List ℕ) (part : Part) (key : Option (List ℕ)) (number : ℕ) : Type 0 where
  pub from_one : 1 ≤ number
  pub within : number ≤ length (line_ends 0 text)
  pub with : beginning_has (first_lines number text) part key ≡ true
  pub without : 2 ≤ number → beginning_has (first_lines (number - 1) text) part key ≡ false

-- the number is that line's; there is none only if the text is too long or lacks the place
abbrev pub IsLineNumber : List ℕ → Part → Option (List ℕ) → Option ℕ → Type 0
IsLineNumber text part key None = length text ≤ SEARCH_LIMIT → beginning_has text part key ≡ false
IsLineNumber text part key (Some number) = BeginsOnLine text part key number

-- the key of a place, if it is there; a missing key gets the line of the part that lacks it
abbrev pub key_there : Data → Place → Option (List ℕ)
key_there document place = if document_has document place.part (key_at document place) then key_at document place else None
