-- All faulty lines of a text, with the places of their faults.
use Rattle.std.specs.Prelude.{◌≡◌, ℕ, ◌+◌, List, [], ◌∷◌, ◌++◌, length, take, Option, Result, option_map, option_to_list}
use Rattle.apex_mistakes.specs.Prelude.{result_err, lines, Configuration, Expected, LineFault, FaultyLine, item_of_line, timed_call_at, request_at}
use Rattle.apex_texts.specs.declared.expected.Expected.TheVariants as kinds
use Rattle.apex_mistakes.specs.declared.faulty_lines.FaultyLines.{FaultyLines}
use Rattle.apex_mistakes.specs.declared.line_place.LinePlace.{LinePlace}
use Rattle.apex_texts.specs.LineFault.{number_of}
use Rattle.apex_mistakes.specs.LinePlace.{place_in}

-- the place of a line's fault, if it has one
abbrev pub place_of : {A : Type 0} → (List ℕ → List (List ℕ) → Result A LineFault) → List Expected → ℕ → List ℕ → Option LinePlace
place_of item_at front number line = option_map (λ fault. place_in front number fault line) (result_err (item_of_line item_at line))

-- the places of the faulty lines among lines, the first of which has this number
unfoldable pub places_from : {A : Type 0} → (List ℕ → List (List ℕ) → Result A LineFault) → List Expected → ℕ → List (List ℕ) → List LinePlace
places_from item_at front number [] = []
places_from item_at front number (line ∷ rest) = option_to_list (place_of item_at front number line) ++ places_from item_at front (number + 1) rest

-- the places of the faulty lines of a text
abbrev pub places_of : {A : Type 0} → (List ℕ → List (List ℕ) → Result A LineFault) → List Expected → List ℕ → List LinePlace
places_of item_at front text = places_from item_at front 1 (lines text)

-- the places of a trace's faulty lines
abbrev pub trace_places : Configuration → List ℕ → List LinePlace
trace_places config text = places_of (request_at config) (kinds.Moment ∷ kinds.Partition ∷ []) text

-- the places of a script's faulty lines
abbrev pub script_places : List ℕ → List LinePlace
script_places text = places_of timed_call_at (kinds.Moment ∷ []) text

-- the line and the number of a fault
abbrev pub faulty_line : LinePlace → FaultyLine
faulty_line place = record { line = place.line; fault = number_of place.fault }

-- the first places, and the number of all
pub record AreFirst (most : ℕ) (places : List LinePlace) (found : FaultyLines) : Type 0 where
  pub first : found.first.items ≡ take most places
  pub count : found.count ≡ length places
