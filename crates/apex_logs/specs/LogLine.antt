-- What a line of a log means: the entry of its call and its logged reply.
--     MOMENT PARTITION CALL ARGUMENTS timeout TIME -> REPLY (NOTE)
-- A log of one partition has no PARTITION. A time-out and a note may be left out, and a note is passed over.
use Rattle.std.specs.Prelude.{ℕ, Bool, false, ◌+◌, ◌==◌, if◌then◌else◌, List, [], ◌∷◌, take, drop, codes, bytes_eq, position, Option, Some, None, Result, Ok, Err}
use Rattle.apex_logs.specs.Prelude.{Configuration, Reply, Entry, Request, LineFault, ◌>>=◌, is_blank, words_of}
use Rattle.memchr.specs.Find.{matches, first_of}
use Rattle.apex_texts.specs.Lines.{line_words}
use Rattle.apex_logs.specs.declared.log_fault.LogFault.{LogFault}
use Rattle.apex_logs.specs.declared.log_fault.LogFault.TheVariants.{NoReply, OpenNote}
use Rattle.apex_logs.specs.declared.time_out.TimeOut.{TimeOut}
use Rattle.apex_logs.specs.ReplyWords.{as_in_trace, first_word, reply_of}
use Rattle.apex_logs.specs.TimedCall.{logged_request_at, own_request_at}

-- ---- the arrow

-- the index of the first arrow
abbrev pub arrow_in : List ℕ → Option ℕ
arrow_in text = first_of (matches text (codes "->") 0)

-- what is before the arrow at an index, and what is after it
abbrev pub sides_at : List ℕ → Option ℕ → Result (List ℕ × List ℕ) LogFault
sides_at text None = Err NoReply
sides_at text (Some at) = Ok (take at text, drop (at + 2) text)

-- what is before the first arrow, and what is after it
abbrev pub sides_of : List ℕ → Result (List ℕ × List ℕ) LogFault
sides_of text = sides_at text (arrow_in text)

-- ---- the note

-- an opening bracket
abbrev pub is_bracket : ℕ → Bool
is_bracket byte = byte == 40

-- whether the last byte that isn't blank is a closing bracket; if all are blank, as before
abbrev pub is_closed : Bool → List ℕ → Bool
is_closed before [] = before
is_closed before (byte ∷ rest) = is_closed (if is_blank byte then before else byte == 41) rest

-- what is before the note that begins at an index
abbrev pub before_note_at : List ℕ → Option ℕ → Result (List ℕ) LogFault
before_note_at text None = Ok text
before_note_at text (Some at) = if is_closed false (drop at text) then Ok (take at text) else Err OpenNote

-- what is before the note of a text; the note begins at the first bracket and must be closed at the end
abbrev pub before_note : List ℕ → Result (List ℕ) LogFault
before_note text = before_note_at text (position is_bracket text)

-- the reply after an arrow
unfoldable pub reply_behind : List ℕ → Result Reply LogFault
reply_behind text = do
  words ← before_note text
  reply_of (words_of words)

-- ---- the line

-- the parts of a line: the first word of its call, the words after it, and what is after the arrow
pub record Parts : Type 0 where
  pub moment : List ℕ
  pub words : List (List ℕ)
  pub reply : List ℕ

-- the parts of a line that has words; a line without words and a comment have none
abbrev pub parts_with : List ℕ → Option (List ℕ × List (List ℕ)) → Result (Option Parts) LogFault
parts_with line None = Ok None
parts_with line (Some words) = do
  sides ← sides_of line
  call ← first_word (words_of sides.0)
  Ok (Some (record { moment = call.0; words = call.1; reply = sides.1 }))

-- the parts of a line
unfoldable pub parts_of : List ℕ → Result (Option Parts) LogFault
parts_of line = do
  words ← as_in_trace (line_words line)
  parts_with line words

-- what an entry's partition asked
abbrev pub request_in : Entry → Request
request_in entry = record { partition = entry.partition; at = entry.at; call = entry.call }

-- a request with the reply that was logged
abbrev pub with_reply : Request → Reply → Entry
with_reply request reply = record { partition = request.partition; at = request.at; call = request.call; reply = reply }

-- the entry of a line's parts and its time-out, by the way in which the words of its call are read
unfoldable pub entry_of_parts : (List ℕ → List (List ℕ) → Result (Request × TimeOut) LineFault) → Option Parts → Result (Option (Entry × TimeOut)) LogFault
entry_of_parts asked_by None = Ok None
entry_of_parts asked_by (Some parts) = do
  asked ← as_in_trace (asked_by parts.moment parts.words)
  reply ← reply_behind parts.reply
  Ok (Some (with_reply asked.0 reply, asked.1))

-- the entry of a line and its time-out
unfoldable pub entry_of_line : (List ℕ → List (List ℕ) → Result (Request × TimeOut) LineFault) → List ℕ → Result (Option (Entry × TimeOut)) LogFault
entry_of_line asked_by line = do
  parts ← parts_of line
  entry_of_parts asked_by parts

-- the entry of a log's line and its time-out, if it has one
abbrev pub logged_at : Configuration → List ℕ → Result (Option (Entry × TimeOut)) LogFault
logged_at config line = entry_of_line (logged_request_at config) line

-- the entry of a line in the log of one partition and its time-out, if it has one
abbrev pub own_logged_at : ℕ → List ℕ → Result (Option (Entry × TimeOut)) LogFault
own_logged_at partition line = entry_of_line (own_request_at partition) line

-- ---- the end of the calls

-- whether the words begin with `after`
abbrev pub begin_with_after : List (List ℕ) → Bool
begin_with_after [] = false
begin_with_after (word ∷ words) = bytes_eq word (codes "after")

-- a line whose first word is `after` ends the calls of a log: so an explanation goes on with its remarks
abbrev pub ends_calls : List ℕ → Bool
ends_calls line = begin_with_after (words_of line)
