-- All faulty lines of a log, with the places of their faults.
use Rattle.std.specs.Prelude.{◌≡◌, ℕ, ◌+◌, if◌then◌else◌, List, [], ◌∷◌, ◌++◌, length, take, Option, Result, option_map, option_to_list}
use Rattle.apex_mistakes.specs.Prelude.{result_err, lines, Configuration, Request, Expected, LineFault, TimeOut, entry_of_line, ends_calls}
use Rattle.apex_texts.specs.declared.expected.Expected.TheVariants as kinds
use Rattle.apex_logs.specs.declared.log.FaultyLine.{FaultyLine}
use Rattle.apex_logs.specs.TimedCall.{logged_request_at, own_request_at}
use Rattle.apex_mistakes.specs.declared.faulty_log.LogFaults.{LogFaults}
use Rattle.apex_mistakes.specs.declared.log_place.LogPlace.{LogPlace}
use Rattle.apex_mistakes.specs.LogPlace.{log_place_in}

-- the place of a line's fault, if it has one
abbrev pub log_place_of : (List ℕ → List (List ℕ) → Result (Request × TimeOut) LineFault) → List Expected → ℕ → List ℕ → Option LogPlace
log_place_of asked_by front number line = option_map (λ fault. log_place_in asked_by front number fault line) (result_err (entry_of_line asked_by line))

-- the places of the faulty lines among lines, the first of which has this number, up to the line that ends the calls
unfoldable pub log_places_from : (List ℕ → List (List ℕ) → Result (Request × TimeOut) LineFault) → List Expected → ℕ → List (List ℕ) → List LogPlace
log_places_from asked_by front number [] = []
log_places_from asked_by front number (line ∷ rest) =
    if ends_calls line then [] else option_to_list (log_place_of asked_by front number line) ++ log_places_from asked_by front (number + 1) rest

-- the places of the faulty lines of a module's log
abbrev pub log_places : Configuration → List ℕ → List LogPlace
log_places config text = log_places_from (logged_request_at config) (kinds.Moment ∷ kinds.Partition ∷ []) 1 (lines text)

-- the places of the faulty lines of a partition's own log
abbrev pub own_log_places : ℕ → List ℕ → List LogPlace
own_log_places partition text = log_places_from (own_request_at partition) (kinds.Moment ∷ []) 1 (lines text)

-- the line and the fault of a place
abbrev pub faulty_log_line : LogPlace → FaultyLine
faulty_log_line place = record { line = place.line; fault = place.fault }

-- the first places, and the number of all
pub record AreFirstOfLog (most : ℕ) (places : List LogPlace) (found : LogFaults) : Type 0 where
  pub first : found.first.items ≡ take most places
  pub count : found.count ≡ length places
