-- Judging a line of a log: what the line says, and what the standard has in place of its reply.
use Rattle.std.specs.Prelude.{ℕ, Bool, ◌≡◌, nat_lt, if◌then◌else◌, List, length, [], ◌∷◌, ◌++◌, Option, None, Some, option_map, Result, Ok, Err}
use Rattle.std.specs.Str.Lines.{lines}
use Rattle.apex_types.specs.declared.message.TheConstants.{MESSAGE_LIMIT}
use Rattle.apex_module.specs.Configuration.{Configuration}
use Rattle.apex_ports.specs.declared.history.Entry.{Entry}
use Rattle.apex_judge.specs.Departures.{instead_of}
use Rattle.apex_judge.specs.JudgeView.{JudgeView}
use Rattle.apex_judge.specs.declared.departure.Expected.{Expected}
use Rattle.apex_logs.specs.LogFault.{number_of}
use Rattle.apex_logs.specs.LogLine.{ends_calls, logged_at}
use Rattle.apex_logs.specs.Polled.{polled_entry}
use Rattle.apex_logs.specs.TimeOut.{as_waited, max_wait_of}
use Rattle.apex_logs.specs.declared.line_reader.TheConstants.{LINE_LIMIT}
use Rattle.apex_logs.specs.declared.log_fault.LogFault.{LogFault}
use Rattle.apex_logs.specs.declared.time_out.MaxWait.{MaxWait}
use Rattle.apex_logs.specs.declared.time_out.MaxWait.TheVariants.{Zero, Finite, Infinite}
use Rattle.apex_logs.specs.declared.time_out.TimeOut.{TimeOut}
use Rattle.apex_mistakes.specs.LogFaults.{log_places}
use Rattle.apex_mistakes.specs.declared.log_place.LogPlace.{LogPlace}
use Rattle.apex_c.specs.Found.{Found, for_buffer}
use Rattle.apex_c.specs.HeldJudge.{JudgeHeld}
use Rattle.apex_c.specs.Texts.{IsText}
use Rattle.apex_c.specs.declared.answer.TheConstants.{FAULTY_LINE, NOT_OPEN, TOO_LONG}
use Rattle.apex_c.specs.declared.judged_line.LogLine.{LogLine}
use Rattle.apex_c.specs.declared.judged_line.TheConstants.{CALL, CALLS_END, NO_CALL}
use Rattle.apex_c.specs.declared.judging.Departure.{Departure}

-- ---- the line

-- a line behind which there is none, or the number that says that there is one
abbrev pub last_line : List ℕ → List (List ℕ) → Found (List ℕ)
last_line line [] = Ok line
last_line line (next ∷ rest) = Err TOO_LONG

-- the only one of these lines, or the number that says that it is too long, or that there are more
abbrev pub line_among : List (List ℕ) → Found (List ℕ)
line_among [] = Ok []
line_among (line ∷ rest) = if nat_lt LINE_LIMIT (length line) then Err TOO_LONG else last_line line rest

-- the line that a text has
abbrev pub line_in : List ℕ → Found (List ℕ)
line_in text = line_among (lines text)

-- an entry and its time-out, if a line has them, or its fault
abbrev pub Said : Type 0
Said = Result (Option (Entry × TimeOut)) LogFault

-- what a line says; one that ends the calls has no entry
abbrev pub said_in : Configuration → List ℕ → Said
said_in config line = if ends_calls line then Ok None else logged_at config line

-- found by a judge that is open, for a line
abbrev pub of_line : {X : Type 0} → JudgeHeld → Found (List ℕ) → (JudgeView → List ℕ → Found X) → Found X
of_line held (Err number) find = Err number
of_line None (Ok line) find = Err NOT_OPEN
of_line (Some judge) (Ok line) find = find judge line

-- ---- the judgement

-- how long the call of an entry may wait; whether all that say no time-out have one is a parameter
abbrev pub wait_in : Bool → Entry × TimeOut → MaxWait
wait_in all said = max_wait_of all said.0.call said.1

-- what is judged: what the call would have got without a time-out
abbrev pub entry_in : Bool → Entry × TimeOut → Entry
entry_in all said = polled_entry (wait_in all said) said.0

-- what the standard has, with its reply to a call that may wait
abbrev pub expected_waited : MaxWait → Expected → Expected
expected_waited wait expected = record { row = expected.row; reply = as_waited wait expected.reply }

-- what the standard has in place of the reply, if that is another
abbrev pub instead_said : Bool → JudgeView → Said → Found (Option Expected)
instead_said all judge (Err fault) = Err FAULTY_LINE
instead_said all judge (Ok None) = Ok None
instead_said all judge (Ok (Some said)) =
    Ok (option_map (expected_waited (wait_in all said)) (instead_of judge.config judge.log (entry_in all said)))

-- the judge with the entry in its log, if there is one
abbrev pub noted_said : Bool → JudgeView → Said → Found JudgeView
noted_said all judge (Err fault) = Err FAULTY_LINE
noted_said all judge (Ok None) = Ok judge
noted_said all judge (Ok (Some said)) = Ok (record judge { log = judge.log ++ entry_in all said ∷ [] })

-- both of a text, for a buffer of this many bytes
abbrev pub judged_line : Bool → ℕ → JudgeHeld → List ℕ → Found (Option Expected)
judged_line all room held text = for_buffer MESSAGE_LIMIT room
    (of_line held (line_in text) (λ judge line. instead_said all judge (said_in judge.config line)))

abbrev pub noted_line : Bool → ℕ → JudgeHeld → List ℕ → Found JudgeView
noted_line all room held text = for_buffer MESSAGE_LIMIT room
    (of_line held (line_in text) (λ judge line. noted_said all judge (said_in judge.config line)))

-- ---- what is shown of a line

abbrev pub wait_number : MaxWait → ℕ
wait_number Zero = 0
wait_number Finite = 1
wait_number Infinite = 2

-- the column of the first place; 0 if there is none
abbrev pub first_column : List LogPlace → ℕ
first_column [] = 0
first_column (place ∷ places) = place.column

abbrev pub line_of_kind : ℕ → LogLine
line_of_kind kind = record { column = 0; kind = kind; wait = 0; fault = 0 }

-- a line of a text with this fault, in numbers
abbrev pub numbers_of_fault : Configuration → List ℕ → LogFault → LogLine
numbers_of_fault config text fault =
    record (line_of_kind NO_CALL) { column = first_column (log_places config text); fault = number_of fault }

-- what a line of a text says, in numbers
abbrev pub numbers_said : Bool → Configuration → List ℕ → Said → LogLine
numbers_said all config text (Ok None) = line_of_kind NO_CALL
numbers_said all config text (Ok (Some said)) = record (line_of_kind CALL) { wait = wait_number (wait_in all said) }
numbers_said all config text (Err fault) = numbers_of_fault config text fault

abbrev pub numbers_of_line : Bool → Configuration → List ℕ → List ℕ → LogLine
numbers_of_line all config text line =
    if ends_calls line then line_of_kind CALLS_END else numbers_said all config text (logged_at config line)

abbrev pub shown_line : Bool → ℕ → JudgeHeld → List ℕ → Found LogLine
shown_line all room held text = for_buffer MESSAGE_LIMIT room
    (of_line held (line_in text) (λ judge line. Ok (numbers_of_line all judge.config text line)))

-- the places of a faulty line: its words
pub record IsFaultShown (old new : Departure) (old_buffer new_buffer old_words new_words : List ℕ) : Type 0 where
  pub departure : new ≡ record old { words_length = new.words_length }
  pub buffer : new_buffer ≡ old_buffer
  pub words : IsText old_words new_words new.words_length

-- what was judged, with the departure that its expected part is; a fault has its words instead
abbrev pub found_of : {D S : Type 0} → (D → Expected) → Result (Option D) S → Found (Option Expected)
found_of expected (Ok departs) = Ok (option_map expected departs)
found_of expected (Err words) = Err FAULTY_LINE
