-- The place of the fault of a log's line: its part, the number of its word there, and its column.
use Rattle.std.specs.Prelude.{ℕ, ◌+◌, ◌-◌, Bool, true, false, not, if◌then◌else◌, List, [], ◌++◌, codes, length, take, drop, position, unwrap_or, is_err, Result, Ok, Err}
use Rattle.apex_mistakes.specs.Prelude.{Request, Expected, LineFault, words_of, TimeOut, sides_of, is_bracket, before_note, entry_of_line}
use Rattle.std.specs.List.{position_or_len, range_with_len}
use Rattle.apex_types.specs.declared.reply.Reply.{Reply}
use Rattle.apex_texts.specs.declared.line_fault.LineFault.TheVariants as faults
use Rattle.apex_logs.specs.declared.log_fault.LogFault.{LogFault}
use Rattle.apex_logs.specs.declared.log_fault.LogFault.TheVariants.{Line, NoReply, OpenNote, UnknownReply}
use Rattle.apex_logs.specs.ReplyWords.{reply_of}
use Rattle.apex_mistakes.specs.declared.line_place.LinePlace.{LinePlace}
use Rattle.apex_mistakes.specs.declared.log_place.LogPart.{LogPart}
use Rattle.apex_mistakes.specs.declared.log_place.LogPart.TheVariants as parts
use Rattle.apex_mistakes.specs.declared.log_place.LogPlace.{LogPlace}
use Rattle.apex_mistakes.specs.LinePlace.{column_of, parameters_at, place_in}

-- ---- the parts of a line

-- a value that was read, or another one
abbrev pub read_or : {A : Type 0} → A → Result A LogFault → A
read_or other (Ok x) = x
read_or other (Err fault) = other

-- what is before the arrow; the line if it has none
abbrev pub call_side : List ℕ → List ℕ
call_side line = (read_or (line, []) (sides_of line)).0

-- what is after the arrow; nothing if there is none
abbrev pub reply_side : List ℕ → List ℕ
reply_side line = (read_or (line, []) (sides_of line)).1

-- what is after the arrow, before the note
abbrev pub reply_text : List ℕ → List ℕ
reply_text line = read_or (reply_side line) (before_note (reply_side line))

-- ---- the call

-- the call of a line, with a reply that any call can have
abbrev pub call_alone : List ℕ → List ℕ
call_alone line = call_side line ++ codes "->not made"

-- whether a line is faulty whatever its reply is
abbrev pub is_in_call : (List ℕ → List (List ℕ) → Result (Request × TimeOut) LineFault) → List ℕ → Bool
is_in_call asked_by line = is_err (entry_of_line asked_by (call_alone line))

-- the number of words before the place of a missing arrow: those of the call, or all if no service is called
abbrev pub before_arrow_of : List Expected → List (List ℕ) → List Expected → ℕ
before_arrow_of front words [] = length words
before_arrow_of front words parameters = length front + 1 + length parameters

abbrev pub before_arrow : List Expected → List (List ℕ) → ℕ
before_arrow front words = before_arrow_of front words (parameters_at (drop (length front) words))

-- ---- the reply

-- whether words that were read are a reply, or only lack further ones
abbrev pub is_begun : Result Reply LogFault → Bool
is_begun (Ok reply) = true
is_begun (Err (Line faults.TooFewWords)) = true
is_begun (Err fault) = false

-- whether a reply begins with the words
abbrev pub begins_reply : List (List ℕ) → Bool
begins_reply words = is_begun (reply_of words)

-- the number of words before the first with which no reply begins; all, if a reply begins with them
abbrev pub fitting : List (List ℕ) → ℕ
fitting words = position_or_len (λ before. not (begins_reply (take (before + 1) words))) (range_with_len 0 (length words))

-- ---- the place

-- the column, from 0, at which a line's last part begins
abbrev pub bytes_before : List ℕ → List ℕ → ℕ
bytes_before part line = length line - length part

-- the column of the bracket of a note
abbrev pub bracket_column : List ℕ → ℕ
bracket_column line = bytes_before (reply_side line) line + unwrap_or (position is_bracket (reply_side line)) (length (reply_side line)) + 1

-- the column of the word of a reply after this number of others
abbrev pub reply_column : ℕ → List ℕ → ℕ
reply_column before line = bytes_before (reply_side line) line + column_of before (reply_text line)

-- the place of a fault, from that of a trace's fault
abbrev pub of_line_place : LogFault → LogPart → LinePlace → LogPlace
of_line_place fault part place = record { line = place.line; fault = fault; part = part; word = place.word; column = place.column }

abbrev pub place_in_reply : ℕ → LogFault → List ℕ → LogPlace
place_in_reply number fault line =
    let before = fitting (words_of (reply_text line)) in
    record { line = number; fault = fault; part = parts.Reply; word = before + 1; column = reply_column before line }

-- the place of a fault in the line with this number
abbrev pub log_place_in : (List ℕ → List (List ℕ) → Result (Request × TimeOut) LineFault) → List Expected → ℕ → LogFault → List ℕ → LogPlace
log_place_in asked_by front number (Line faults.NotAscii) line = of_line_place (Line faults.NotAscii) parts.Line (place_in front number faults.NotAscii line)
log_place_in asked_by front number (Line fault) line =
    if is_in_call asked_by line then of_line_place (Line fault) parts.Call (place_in front number fault (call_side line)) else place_in_reply number (Line fault) line
log_place_in asked_by front number NoReply line =
    let before = before_arrow front (words_of line) in
    record { line = number; fault = NoReply; part = parts.Line; word = before + 1; column = column_of before line }
log_place_in asked_by front number OpenNote line = record { line = number; fault = OpenNote; part = parts.Note; word = 1; column = bracket_column line }
log_place_in asked_by front number UnknownReply line = place_in_reply number UnknownReply line
