-- What a log means: the entries of its lines in order, or its first faulty line. A parameter says whose log it is, and so
-- how its lines are read.
use Rattle.std.specs.Prelude.{◌≡◌, ℕ, ◌+◌, if◌then◌else◌, List, [], ◌∷◌, ◌++◌, codes, decimal, Option, Some, None, Result, Ok, Err}
use Rattle.apex_logs.specs.Prelude.{lines, Configuration, Entry, Request, LineFault, ◌>>=◌}
use Rattle.std.specs.Global.{Vec}
use Rattle.apex_logs.specs.declared.log.FaultyLine.{FaultyLine}
use Rattle.apex_logs.specs.declared.log.LogError.{LogError}
use Rattle.apex_logs.specs.declared.log.LogError.TheVariants as errors
use Rattle.apex_logs.specs.declared.log.LoggedEntry.{LoggedEntry}
use Rattle.apex_logs.specs.declared.log_fault.LogFault.{LogFault}
use Rattle.apex_logs.specs.declared.time_out.TimeOut.{TimeOut}
use Rattle.apex_logs.specs.LogFault.{number_of, log_fault_words}
use Rattle.apex_logs.specs.LogLine.{entry_of_line, ends_calls}
use Rattle.apex_logs.specs.TimedCall.{logged_request_at, own_request_at}

-- `line L fault N: WORDS`
abbrev pub faulty_line_words : FaultyLine → List ℕ
faulty_line_words faulty = codes "line " ++ decimal faulty.line ++ codes " fault " ++ decimal (number_of faulty.fault) ++ codes ": " ++ log_fault_words faulty.fault

abbrev pub error_words : LogError → List ℕ
error_words (errors.Line faulty) = faulty_line_words faulty
error_words errors.OutOfMemory = codes "out of memory"

-- what the line with this number adds before the meaning of the lines after it
abbrev pub before : ℕ → Result (Option (Entry × TimeOut)) LogFault → Result (List LoggedEntry) FaultyLine → Result (List LoggedEntry) FaultyLine
before number (Err fault) after = Err (record { line = number; fault = fault })
before number (Ok None) after = after
before number (Ok (Some (entry, time_out))) after = do
  entries ← after
  Ok (record { line = number; entry = entry; time_out = time_out } ∷ entries)

-- the entries of lines of which the first has this number, up to the line that ends the calls
unfoldable pub entries_from : (List ℕ → List (List ℕ) → Result (Request × TimeOut) LineFault) → ℕ → List (List ℕ) → Result (List LoggedEntry) FaultyLine
entries_from asked_by number [] = Ok []
entries_from asked_by number (line ∷ rest) =
    if ends_calls line then Ok [] else before number (entry_of_line asked_by line) (entries_from asked_by (number + 1) rest)

-- the entries of a module's log, or its first faulty line
abbrev pub log_of : Configuration → List ℕ → Result (List LoggedEntry) FaultyLine
log_of config text = entries_from (logged_request_at config) 1 (lines text)

-- the entries of a partition's own log, or its first faulty line
abbrev pub own_log_of : ℕ → List ℕ → Result (List LoggedEntry) FaultyLine
own_log_of partition text = entries_from (own_request_at partition) 1 (lines text)

-- the first entry of lines of which the first has this number: found is the number of its line, its time-out and the lines after it
abbrev pub IsNext : (List ℕ → List (List ℕ) → Result (Request × TimeOut) LineFault) → ℕ → List (List ℕ) → Entry → Option (ℕ × TimeOut × List (List ℕ)) → Type 0
IsNext asked_by number lines entry None = entries_from asked_by number lines ≡ Ok []
IsNext asked_by number lines entry (Some found) =
    entries_from asked_by number lines ≡ before found.0 (Ok (Some (entry, found.1))) (entries_from asked_by (found.0 + 1) found.2)

-- a reader returns the log's meaning, unless memory ran out
abbrev pub IsLogRead : Result (Vec LoggedEntry) LogError → Result (List LoggedEntry) FaultyLine → Type 0
IsLogRead (Ok read) meaning = meaning ≡ Ok read.items
IsLogRead (Err (errors.Line faulty)) meaning = meaning ≡ Err faulty
IsLogRead (Err errors.OutOfMemory) meaning = Unit {0}
