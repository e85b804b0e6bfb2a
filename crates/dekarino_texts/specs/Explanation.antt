-- What an explanation has of each line of a trace, up to the first faulty one.
use Rattle.std.specs.Prelude.{ℕ, ◌+◌, List, [], ◌∷◌, ◌++◌, Option, Some, None, Result, Ok, Err, IsOk}
use Rattle.dekarino_texts.specs.Prelude.{before_first, after_first, flat_map, Reply, Configuration, Request, History, entry_of, LineFault, FaultyLine, item_of_line, entry_after, IsRefused, is_line_feed, request_at}
use Rattle.std.specs.Str.Lines.{lines}
use Rattle.apex_ports.specs.declared.rows.Row.{Row}
use Rattle.apex_ports.specs.ReplyTable.{row_of}
use Rattle.apex_ports.specs.Seen.{seen}
use Rattle.apex_texts.specs.declared.fault.TraceFault.{TraceFault}
use Rattle.dekarino_texts.specs.declared.explanation.AnsweredCall.{AnsweredCall}
use Rattle.dekarino_texts.specs.Remarks.{LineEntry}

-- ---- the fault

-- the fault is that of the trace, and none if the trace has none
abbrev pub IsFaultOf : Result (List Request) FaultyLine → Option TraceFault → Type 0
IsFaultOf meaning None = IsOk meaning
IsFaultOf meaning (Some fault) = IsRefused meaning fault

-- ---- one line

-- a call with the row of the reply table and the reply that it got
pub record Answer : Type 0 where
  pub request : Request
  pub row : Row
  pub reply : Reply

-- a line with its number and its bytes, and what comes of it: a call with its answer, no call, or a fault
pub record ExplainedLine : Type 0 where
  pub number : ℕ
  pub line : List ℕ
  pub item : Result (Option Answer) LineFault

abbrev pub line_without_call : ℕ → List ℕ → ExplainedLine
line_without_call number line = record { number = number; line = line; item = Ok None }

abbrev pub line_faulty : ℕ → List ℕ → LineFault → ExplainedLine
line_faulty number line fault = record { number = number; line = line; item = Err fault }

abbrev pub line_with : ℕ → List ℕ → Request → Row → Reply → ExplainedLine
line_with number line request row reply =
    record { number = number; line = line; item = Ok (Some (record { request = request; row = row; reply = reply })) }

-- as it is handed to a sink
abbrev pub line_answered : AnsweredCall → ExplainedLine
line_answered call = line_with call.number call.line.now call.request.now call.row call.reply.now

-- the row that gives the reply to a request after a history
abbrev pub row_after : Configuration → History → Request → Row
row_after config history request = row_of config (seen config history request.partition) request.partition request.at request.call

-- the line of a request after a history
abbrev pub answered_after : Configuration → History → ℕ → List ℕ → Request → ExplainedLine
answered_after config history number line request =
    line_with number line request (row_after config history request) (entry_after config history request).reply

-- ---- all lines

-- what comes of the line with this number, and of those after it; a faulty line is handed on with all its bytes
abbrev pub explained_line : Configuration → History → ℕ → List ℕ → List ℕ → Result (Option Request) LineFault → (History → List ExplainedLine) → List ExplainedLine
explained_line config history number line bytes (Ok None) after = line_without_call number line ∷ after history
explained_line config history number line bytes (Ok (Some request)) after =
    answered_after config history number line request ∷ after (history ++ entry_after config history request ∷ [])
explained_line config history number line bytes (Err fault) after = line_faulty number bytes fault ∷ []

-- what comes of a text with these lines, of which the first has this number, after a history
unfoldable pub explained : Configuration → History → ℕ → List ℕ → List (List ℕ) → List ExplainedLine
explained config history number text [] = []
explained config history number text (line ∷ rest) =
    explained_line config history number line (before_first is_line_feed text) (item_of_line (request_at config) line)
    (λ after. explained config after (number + 1) (after_first is_line_feed text) rest)

-- what comes of a whole trace
abbrev pub explanation_of : Configuration → List ℕ → List ExplainedLine
explanation_of config trace = explained config [] 1 trace (lines trace)

-- ---- its calls

abbrev pub entries_if : ℕ → Result (Option Answer) LineFault → List LineEntry
entries_if number (Ok (Some answer)) =
    record { line = number; entry = entry_of answer.request.partition answer.request.at answer.request.call answer.reply } ∷ []
entries_if number _ = []

-- the entry of a line with a call
abbrev pub entry_in : ExplainedLine → List LineEntry
entry_in line = entries_if line.number line.item

-- the entries of all lines with a call
abbrev pub log_in : List ExplainedLine → List LineEntry
log_in explained = flat_map entry_in explained
