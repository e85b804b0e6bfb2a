-- The lines of a script that have a call.
use Rattle.std.specs.Prelude.{◌≡◌, ℕ, Bool, true, false, ◌+◌, if◌then◌else◌, List, [], ◌∷◌, length, slice_get, Option, Some, None, Result, Ok, Err}
use Rattle.dekarino_texts.specs.Prelude.{Call, Moment, LineFault, FaultyLine, line_words, item_of_line, timed_call_at}
use Rattle.std.specs.Str.Lines.{lines}

-- ---- the numbers

-- whether there are words to read
abbrev pub are_words : Result (Option (List ℕ × List (List ℕ))) LineFault → Bool
are_words (Ok (Some words)) = true
are_words (Ok None) = false
are_words (Err fault) = false

-- whether a line has a call: it has words that are no comment
abbrev pub has_call : List ℕ → Bool
has_call line = are_words (line_words line)

-- the numbers of the lines that have a call, if the first line has this number
unfoldable pub numbers_from : ℕ → List (List ℕ) → List ℕ
numbers_from number [] = []
numbers_from number (line ∷ rest) =
    if has_call line then number ∷ numbers_from (number + 1) rest else numbers_from (number + 1) rest

-- the numbers of a script's lines that have a call
abbrev pub call_numbers : List ℕ → List ℕ
call_numbers script = numbers_from 1 (lines script)

-- ---- what they are the numbers of

-- the line of the number has the call
pub record IsLineOf (script : List ℕ) (number : ℕ) (timed : Moment × Call) : Type 0 where
  pub index : ℕ
  pub number_is : number ≡ index + 1
  pub line : List ℕ
  pub here : slice_get (lines script) index ≡ Some line
  pub call : item_of_line timed_call_at line ≡ Ok (Some timed)

-- there is a number for each call, and at its index that of its line
pub record AreTheirLines (script numbers : List ℕ) (calls : List (Moment × Call)) : Type 0 where
  pub count : length numbers ≡ length calls
  pub each : (k number : ℕ) (timed : Moment × Call) → slice_get numbers k ≡ Some number
      → slice_get calls k ≡ Some timed → IsLineOf script number timed

-- if the script is read
abbrev pub AreLinesOf : List ℕ → List ℕ → Result (List (Moment × Call)) FaultyLine → Type 0
AreLinesOf script numbers (Ok calls) = AreTheirLines script numbers calls
AreLinesOf script numbers (Err faulty) = Unit {0}
