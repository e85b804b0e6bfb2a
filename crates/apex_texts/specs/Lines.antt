-- The meaning of a text of lines: the items of its lines in order, or its first faulty line. How the words of a line
-- are read is a parameter.
use Rattle.std.specs.Prelude.{◌≡◌, ℕ, Bool, ◌+◌, ◌==◌, nat_lt, if◌then◌else◌, List, [], ◌∷◌, slice_index, Option, Some, None, Result, Ok, Err}
use Rattle.apex_texts.specs.Prelude.{list_all}
use Rattle.std.specs.Str.Lines.{lines}
use Rattle.apex_texts.specs.declared.line_fault.LineFault.{LineFault}
use Rattle.apex_texts.specs.declared.line_fault.LineFault.TheVariants as faults
use Rattle.apex_texts.specs.declared.fault.TraceFault.{TraceFault}
use Rattle.apex_texts.specs.declared.fault.TraceFault.TheVariants as errors
use Rattle.apex_texts.specs.LineFault.{number_of}
use Rattle.apex_texts.specs.Text.{words_of}
use Rattle.apex_texts.specs.Arguments.{◌>>=◌}

-- the first faulty line, from 1, and the number of its fault
pub record FaultyLine : Type 0 where
  pub line : ℕ
  pub fault : ℕ

-- a byte up to 0x7F
abbrev pub is_ascii : ℕ → Bool
is_ascii byte = nat_lt byte 128

-- the first word and the words after it; none if there are no words, or the first begins with `#`
abbrev pub words_read : List (List ℕ) → Option (List ℕ × List (List ℕ))
words_read [] = None
words_read (first ∷ words) = if slice_index first 0 == 35 then None else Some (first, words)

-- the words that give a line's item
unfoldable pub line_words : List ℕ → Result (Option (List ℕ × List (List ℕ))) LineFault
line_words line = if list_all is_ascii line then Ok (words_read (words_of line)) else Err faults.NotAscii

-- the item of a line's words, by a function of a first word and the words after it
abbrev pub item_of_words : {A : Type 0} → (List ℕ → List (List ℕ) → Result A LineFault) → Option (List ℕ × List (List ℕ)) → Result (Option A) LineFault
item_of_words item_at None = Ok None
item_of_words item_at (Some words) = do
  item ← item_at words.0 words.1
  Ok (Some item)

-- the item of a line
unfoldable pub item_of_line : {A : Type 0} → (List ℕ → List (List ℕ) → Result A LineFault) → List ℕ → Result (Option A) LineFault
item_of_line item_at line = do
  words ← line_words line
  item_of_words item_at words

-- what the line with this number adds to the meaning of the lines after it
abbrev pub before : {A : Type 0} → ℕ → Result (Option A) LineFault → Result (List A) FaultyLine → Result (List A) FaultyLine
before number (Err fault) after = Err (record { line = number; fault = number_of fault })
before number (Ok None) after = after
before number (Ok (Some item)) after = do
  items ← after
  Ok (item ∷ items)

-- the items of lines, the first of which has this number
unfoldable pub items_from : {A : Type 0} → (List ℕ → List (List ℕ) → Result A LineFault) → ℕ → List (List ℕ) → Result (List A) FaultyLine
items_from item_at number [] = Ok []
items_from item_at number (line ∷ rest) = before number (item_of_line item_at line) (items_from item_at (number + 1) rest)

-- the items of a text, or its first faulty line
abbrev pub items_of : {A : Type 0} → (List ℕ → List (List ℕ) → Result A LineFault) → List ℕ → Result (List A) FaultyLine
items_of item_at text = items_from item_at 1 (lines text)

-- what a reader returned, seen as items, is the meaning of the text, unless memory ran out
abbrev pub IsRead : {X A : Type 0} → (X → List A) → Result X TraceFault → Result (List A) FaultyLine → Type 0
IsRead items (Ok read) meaning = meaning ≡ Ok (items read)
IsRead items (Err (errors.Line line fault)) meaning = meaning ≡ Err (record { line = line; fault = fault })
IsRead items (Err errors.OutOfMemory) meaning = Unit {0}
