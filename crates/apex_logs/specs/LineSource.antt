-- Lines of a log that come one after another: what is left of them, and what the next one is.
use Rattle.std.specs.Prelude.{◌≡◌, ℕ, Bool, true, false, List, [], ◌∷◌, ◌++◌, drop, Option, Some, None, option_map, Result, Ok, Err, IfSome, All, length}
use Rattle.apex_logs.specs.Prelude.{lines, Entry, Request, LineFault, is_line_feed}
use Rattle.std.specs.Io.KnownBytes.{prepend_known}
use Rattle.apex_logs.specs.declared.line_reader.LineReader.{LineReader}
use Rattle.apex_logs.specs.declared.line_source.LogStep.{LogStep}
use Rattle.apex_logs.specs.declared.line_source.LogStep.TheVariants as steps
use Rattle.apex_logs.specs.declared.line_source.StepError.{StepError}
use Rattle.apex_logs.specs.declared.line_source.StepError.TheVariants.{Fault, Unread}
use Rattle.apex_logs.specs.declared.time_out.TimeOut.{TimeOut}
use Rattle.apex_logs.specs.LogLine.{entry_of_line, ends_calls}

-- ---- lines

-- lines, if they are known
abbrev pub KnownLines : Type 0
KnownLines = Option (List (List ℕ))

-- known lines begin with these, and the others are left
abbrev pub LeavesLines : KnownLines → List (List ℕ) → KnownLines → Type 0
LeavesLines None read left = Unit {0}
LeavesLines (Some all) read None = ⊥
LeavesLines (Some all) read (Some left) = all ≡ read ++ left

-- the next line, or that none is left
abbrev pub IsNextLine : Bool → List ℕ → KnownLines → KnownLines → Type 0
IsNextLine true line before after = LeavesLines before (line ∷ []) after
IsNextLine false line before after = IfSome before (λ left. left ≡ [])

-- what a reader in pieces has left: the rest of its piece, and then what its own reader has left, if that is known
abbrev pub text_left : {R : Type 0} → (R → Option (List ℕ)) → LineReader R → Option (List ℕ)
text_left remaining reader = prepend_known (drop reader.start reader.piece.items) (remaining reader.reader)

-- the lines of that
abbrev pub lines_left : {R : Type 0} → (R → Option (List ℕ)) → LineReader R → KnownLines
lines_left remaining reader = option_map lines (text_left remaining reader)

-- no byte is a line feed
abbrev pub HasNoLineFeed : List ℕ → Type 0
HasNoLineFeed bytes = All (λ byte. is_line_feed byte ≡ false) bytes

-- a line got bytes of a text, none of them a line feed: those before the first line feed, which is taken too, or all
abbrev pub IsPart : List ℕ → List ℕ → List ℕ → ℕ → Bool → Type 0
IsPart before after text taken true =
    (part : List ℕ) × (after ≡ before ++ part) × HasNoLineFeed part × (text ≡ part ++ 10 ∷ drop taken text)
IsPart before after text taken false = (after ≡ before ++ text) × HasNoLineFeed text × (taken ≡ length text)

-- ---- the next line of a log

-- what the words of a line ask, and the time-out that they say
abbrev pub AskedBy : Type 0
AskedBy = List ℕ → List (List ℕ) → Result (Request × TimeOut) LineFault

-- what a line is, with its entry if it has one
abbrev pub IsMeaning : AskedBy → List ℕ → Entry → LogStep → Type 0
IsMeaning asked_by line entry (steps.Entry time_out) =
    (ends_calls line ≡ false) × (entry_of_line asked_by line ≡ Ok (Some (entry, time_out)))
IsMeaning asked_by line entry steps.NoEntry = (ends_calls line ≡ false) × (entry_of_line asked_by line ≡ Ok None)
IsMeaning asked_by line entry steps.CallsEnd = ends_calls line ≡ true
IsMeaning asked_by line entry steps.NoLine = ⊥

-- the next line is this one, and what it is; or there is none
abbrev pub IsStep : AskedBy → List ℕ → Entry → LogStep → KnownLines → KnownLines → Type 0
IsStep asked_by line entry steps.NoLine before after = IfSome before (λ left. left ≡ [])
IsStep asked_by line entry step before after =
    LeavesLines before (line ∷ []) after × IsMeaning asked_by line entry step

-- the next line is this one, and is faulty; or it can't be read
abbrev pub IsFaultyStep : AskedBy → List ℕ → StepError → KnownLines → KnownLines → Type 0
IsFaultyStep asked_by line (Fault fault) before after =
    LeavesLines before (line ∷ []) after × (ends_calls line ≡ false) × (entry_of_line asked_by line ≡ Err fault)
IsFaultyStep asked_by line (Unread error) before after = Unit {0}

-- that holds if the line has an entry
abbrev pub IfEntry : LogStep → Type 0 → Type 0
IfEntry (steps.Entry time_out) holds = holds
IfEntry step holds = Unit {0}
