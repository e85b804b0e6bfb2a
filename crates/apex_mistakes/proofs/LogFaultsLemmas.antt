-- Faulty lines of a log one after the other, as a loop finds them.
use Rattle.apex_mistakes.proofs.Common.{◌≡◌, ℕ, ◌+◌, Bool, true, false, List, [], ◌∷◌, ◌++◌, Option, Some, None, Result, Ok, Err, refl, sym, ap, ◌∙◌, take, append-nil, take-nil, if◌then◌else◌, slice_get, option_map, option_to_list, Expected, LineFault, place_in, call_side, is_in_call, of_line_place, place_in_reply, log_place_in, log_places_from, faulty_log_line}
use Rattle.std.specs.Result.{result_err}
use Rattle.apex_ports.specs.declared.history.Entry.{Entry}
use Rattle.apex_ports.specs.declared.history.Request.{Request}
use Rattle.apex_texts.specs.declared.line_fault.LineFault.TheVariants as faults
use Rattle.apex_logs.specs.declared.log.FaultyLine.{FaultyLine}
use Rattle.apex_logs.specs.declared.log.LoggedEntry.{LoggedEntry}
use Rattle.apex_logs.specs.declared.log_fault.LogFault.{LogFault}
use Rattle.apex_logs.specs.declared.log_fault.LogFault.TheVariants.{Line, NoReply, OpenNote, UnknownReply}
use Rattle.apex_logs.specs.declared.time_out.TimeOut.{TimeOut}
use Rattle.apex_logs.specs.LogLine.{entry_of_line, ends_calls}
use Rattle.apex_logs.specs.Log.{before, entries_from}
use Rattle.apex_mistakes.specs.declared.log_place.LogPart.TheVariants as parts
use Rattle.apex_mistakes.specs.declared.log_place.LogPlace.{LogPlace}
use Rattle.apex_mistakes.proofs.PlaceLemmas.{place-line}

module _ (asked_by : List ℕ → List (List ℕ) → Result (Request × TimeOut) LineFault) (front : List Expected) (number : ℕ) where
  -- at a faulty line
  pub finds : (lines : List (List ℕ)) (line : List ℕ) (rest : List (List ℕ)) (fault : LogFault) → lines ≡ line ∷ rest → ends_calls line ≡ false → entry_of_line asked_by line ≡ Err fault
      → log_places_from asked_by front number lines ≡ log_place_in asked_by front number fault line ∷ log_places_from asked_by front (number + 1) rest
  unfolding log_places_from
  finds lines line rest fault cut goes read = rw (cut, goes, read) refl

  -- at another line
  pub passes : (lines : List (List ℕ)) (line : List ℕ) (rest : List (List ℕ)) (entry : Option (Entry × TimeOut)) → lines ≡ line ∷ rest → ends_calls line ≡ false → entry_of_line asked_by line ≡ Ok entry
      → log_places_from asked_by front number lines ≡ log_places_from asked_by front (number + 1) rest
  unfolding log_places_from
  passes lines line rest entry cut goes read = rw (cut, goes, read) refl

  -- at the line that ends the calls
  pub ends : (lines : List (List ℕ)) (line : List ℕ) (rest : List (List ℕ)) → lines ≡ line ∷ rest → ends_calls line ≡ true → log_places_from asked_by front number lines ≡ []
  unfolding log_places_from
  ends lines line rest cut is = rw (cut, is) refl

  -- after the last line
  pub finds_nothing : (lines : List (List ℕ)) → lines ≡ [] → log_places_from asked_by front number lines ≡ []
  unfolding log_places_from
  finds_nothing lines cut = rw cut refl

  -- a place has the line and the fault that it was made for
  in-call : (fault : LineFault) (line : List ℕ) (b : Bool)
      → faulty_log_line (if b then of_line_place (Line fault) parts.Call (place_in front number fault (call_side line)) else place_in_reply number (Line fault) line) ≡ record { line = number; fault = Line fault }
  in-call fault line true = ap (λ (n : ℕ). record { line = n; fault = Line fault }) (place-line front number fault (call_side line))
  in-call fault line false = refl

  pub log_place-faulty : (fault : LogFault) (line : List ℕ) → faulty_log_line (log_place_in asked_by front number fault line) ≡ record { line = number; fault = fault }
  log_place-faulty (Line faults.NotAscii) line = refl
  log_place-faulty (Line faults.TooFewWords) line = in-call faults.TooFewWords line (is_in_call asked_by line)
  log_place-faulty (Line faults.TooManyWords) line = in-call faults.TooManyWords line (is_in_call asked_by line)
  log_place-faulty (Line faults.Moment) line = in-call faults.Moment line (is_in_call asked_by line)
  log_place-faulty (Line faults.Partition) line = in-call faults.Partition line (is_in_call asked_by line)
  log_place-faulty (Line faults.UnknownCall) line = in-call faults.UnknownCall line (is_in_call asked_by line)
  log_place-faulty (Line faults.Number) line = in-call faults.Number line (is_in_call asked_by line)
  log_place-faulty (Line faults.Name) line = in-call faults.Name line (is_in_call asked_by line)
  log_place-faulty (Line faults.Message) line = in-call faults.Message line (is_in_call asked_by line)
  log_place-faulty NoReply line = refl
  log_place-faulty OpenNote line = refl
  log_place-faulty UnknownReply line = refl

-- ---- the first fault is the one for which the log is refused

agrees_after : (entry : Entry × TimeOut) (after : Result (List LoggedEntry) FaultyLine) (number : ℕ) → result_err after ≡ result_err (before number (Ok (Some entry)) after)
agrees_after entry (Ok entries) number = refl
agrees_after entry (Err faulty) number = refl

agrees_by : (asked_by : List ℕ → List (List ℕ) → Result (Request × TimeOut) LineFault) (front : List Expected) (number : ℕ) (line : List ℕ) (read : Result (Option (Entry × TimeOut)) LogFault) (places : List LogPlace) (after : Result (List LoggedEntry) FaultyLine)
    → option_map faulty_log_line (slice_get places 0) ≡ result_err after
    → option_map faulty_log_line (slice_get (option_to_list (option_map (λ fault. log_place_in asked_by front number fault line) (result_err read)) ++ places) 0) ≡ result_err (before number read after)
agrees_by asked_by front number line (Err fault) places after later = ap (λ (x : FaultyLine). Some x) (log_place-faulty asked_by front number fault line)
agrees_by asked_by front number line (Ok None) places after later = later
agrees_by asked_by front number line (Ok (Some entry)) places after later = later ∙ agrees_after entry after number

agrees_at : (asked_by : List ℕ → List (List ℕ) → Result (Request × TimeOut) LineFault) (front : List Expected) (number : ℕ) (line : List ℕ) (b : Bool) (places : List LogPlace) (after : Result (List LoggedEntry) FaultyLine)
    → option_map faulty_log_line (slice_get places 0) ≡ result_err after
    → option_map faulty_log_line (slice_get (if b then [] else option_to_list (option_map (λ fault. log_place_in asked_by front number fault line) (result_err (entry_of_line asked_by line))) ++ places) 0)
    ≡ result_err (if b then Ok [] else before number (entry_of_line asked_by line) after)
agrees_at asked_by front number line true places after later = refl
agrees_at asked_by front number line false places after later = agrees_by asked_by front number line (entry_of_line asked_by line) places after later

pub agrees : (asked_by : List ℕ → List (List ℕ) → Result (Request × TimeOut) LineFault) (front : List Expected) (number : ℕ) (lines : List (List ℕ))
    → option_map faulty_log_line (slice_get (log_places_from asked_by front number lines) 0) ≡ result_err (entries_from asked_by number lines)
unfolding log_places_from entries_from
agrees asked_by front number [] = refl
agrees asked_by front number (line ∷ rest) =
    agrees_at asked_by front number line (ends_calls line) (log_places_from asked_by front (number + 1) rest) (entries_from asked_by (number + 1) rest) (agrees asked_by front (number + 1) rest)

-- ---- no place is left

pub none_left : {X : Type 0} (first : List X) (n : ℕ) (left total : List X) → left ≡ [] → first ++ take n left ≡ total → first ≡ total
none_left first n left total none so_far = sym (append-nil first) ∙ ap (λ xs. first ++ xs) (sym (take-nil n) ∙ ap (take n) (sym none)) ∙ so_far
