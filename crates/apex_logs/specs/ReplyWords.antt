-- The reply that words say, in the words of a report: they are read from left to right, and the first fault counts.
use Rattle.std.specs.Prelude.{◌≡◌, ℕ, if◌then◌else◌, List, [], ◌∷◌, find, codes, bytes_eq, Option, Some, None, Result, Ok, Err}
use Rattle.apex_logs.specs.Prelude.{Reply, ReturnCode, NoError, NoAction, NotAvailable, InvalidParam, InvalidConfig, InvalidMode, TimedOut, NUMBER_LIMIT, LineFault, ◌>>=◌, or_fault, word_at, argument_at, message_in, exactly, number_up_to}
use Rattle.apex_types.specs.Direction.{word_of as direction_word}
use Rattle.apex_types.specs.ReturnCode.{word_of as code_word}
use Rattle.apex_types.specs.Validity.{word_of as validity_word}
use Rattle.apex_types.specs.declared.direction.Direction.{Direction}
use Rattle.apex_types.specs.declared.direction.Direction.TheVariants.{Source, Destination}
use Rattle.apex_types.specs.declared.reply.Reply.TheVariants as replies
use Rattle.apex_types.specs.declared.validity.Validity.{Validity}
use Rattle.apex_types.specs.declared.validity.Validity.TheVariants.{Invalid, Valid}
use Rattle.apex_texts.specs.declared.line_fault.LineFault.TheVariants as line_faults
use Rattle.apex_logs.specs.declared.log_fault.LogFault.{LogFault}
use Rattle.apex_logs.specs.declared.log_fault.LogFault.TheVariants.{Line, UnknownReply}
use Rattle.apex_logs.specs.declared.reply_words.TheConstants.{REFRESH_LIMIT}

-- what a function returned, seen by view, is what reading gives
abbrev pub Gives : {X Y : Type 0} → (X → Y) → Result X LogFault → Result Y LogFault → Type 0
Gives view (Ok x) read = read ≡ Ok (view x)
Gives view (Err fault) read = read ≡ Err fault

-- what is read as in a trace's line
abbrev pub as_in_trace : {A : Type 0} → Result A LineFault → Result A LogFault
as_in_trace (Ok x) = Ok x
as_in_trace (Err fault) = Err (Line fault)

-- what a word of a reply names
abbrev pub or_unknown : {A : Type 0} → Option A → Result A LogFault
or_unknown None = Err UnknownReply
or_unknown (Some x) = Ok x

-- the first word, and the words after it
abbrev pub first_word : List (List ℕ) → Result (List ℕ × List (List ℕ)) LogFault
first_word words = as_in_trace (word_at words)

-- the words after one that has to be this
abbrev pub after_word : List ℕ → List (List ℕ) → Result (List (List ℕ)) LogFault
after_word expected words = do
  word ← first_word words
  if bytes_eq word.0 expected then Ok word.1 else Err UnknownReply

-- the first word by what it names, and the words after it
abbrev pub named_at : {A : Type 0} → (List ℕ → Option A) → List (List ℕ) → Result (A × List (List ℕ)) LogFault
named_at named words = do
  word ← first_word words
  value ← or_unknown (named word.0)
  Ok (value, word.1)

-- the first word as a number, and the words after it
abbrev pub number_at : ℕ → List (List ℕ) → Result (ℕ × List (List ℕ)) LogFault
number_at limit words = as_in_trace (argument_at (number_up_to limit) line_faults.Number words)

-- a number after a word that must be this one
abbrev pub number_after : List ℕ → List (List ℕ) → Result (ℕ × List (List ℕ)) LogFault
number_after expected words = do
  rest ← after_word expected words
  number_at NUMBER_LIMIT rest

-- the return code that a word is
abbrev pub code_named : List ℕ → Option ReturnCode
code_named word = find (λ code. bytes_eq (code_word code) word) (NoError ∷ NoAction ∷ NotAvailable ∷ InvalidParam ∷ InvalidConfig ∷ InvalidMode ∷ TimedOut ∷ [])

-- the direction that a word is
abbrev pub direction_named : List ℕ → Option Direction
direction_named word = find (λ direction. bytes_eq (direction_word direction) word) (Source ∷ Destination ∷ [])

-- the validity that a word is
abbrev pub validity_named : List ℕ → Option Validity
validity_named word = find (λ validity. bytes_eq (validity_word validity) word) (Invalid ∷ Valid ∷ [])

-- that no word is left
abbrev pub no_word : List (List ℕ) → Result (List (List ℕ)) LogFault
no_word words = as_in_trace (exactly 0 words)

-- a reply after which no word is left
abbrev pub whole : Reply → List (List ℕ) → Result Reply LogFault
whole reply words = do
  rest ← no_word words
  Ok reply

-- after `not`: MADE
unfoldable pub not_made_at : List (List ℕ) → Result Reply LogFault
not_made_at words = do
  rest ← after_word (codes "made") words
  whole replies.NotMade rest

-- after `NO_ERROR id`: ID
unfoldable pub id_at : List (List ℕ) → Result Reply LogFault
id_at words = do
  id ← number_at NUMBER_LIMIT words
  whole (replies.Id id.0) id.1

-- the message that a word is
abbrev pub message_of : List ℕ → Result (List ℕ) LogFault
message_of word = as_in_trace (or_fault line_faults.Message (message_in word))

-- a message, and its validity if there is one
abbrev pub shown : List ℕ → List (List ℕ) → Result Reply LogFault
shown message [] = Ok (replies.Received message)
shown message (word ∷ words) = do
  validity ← or_unknown (validity_named word)
  whole (replies.Read message validity) words

-- the message that a word gives, and its validity if there is one
abbrev pub shown_by : List ℕ → List (List ℕ) → Result Reply LogFault
shown_by word words = do
  message ← message_of word
  shown message words

-- after `NO_ERROR message`: MESSAGE, or MESSAGE VALIDITY
unfoldable pub message_reply_at : List (List ℕ) → Result Reply LogFault
message_reply_at words = do
  word ← first_word words
  shown_by word.0 word.1

-- after `NO_ERROR waiting`: WAITING depth DEPTH size SIZE DIRECTION processes 0
unfoldable pub queuing_status_at : List (List ℕ) → Result Reply LogFault
queuing_status_at words = do
  waiting ← number_at NUMBER_LIMIT words
  depth ← number_after (codes "depth") waiting.1
  size ← number_after (codes "size") depth.1
  direction ← named_at direction_named size.1
  processes ← after_word (codes "processes") direction.1
  rest ← after_word (codes "0") processes
  whole (replies.QueuingStatus waiting.0 depth.0 size.0 direction.0) rest

-- after `NO_ERROR refresh`: REFRESH size SIZE DIRECTION last VALIDITY
unfoldable pub sampling_status_at : List (List ℕ) → Result Reply LogFault
sampling_status_at words = do
  refresh ← number_at REFRESH_LIMIT words
  size ← number_after (codes "size") refresh.1
  direction ← named_at direction_named size.1
  rest ← after_word (codes "last") direction.1
  last ← named_at validity_named rest
  whole (replies.SamplingStatus refresh.0 size.0 direction.0 last.0) last.1

-- after `NO_ERROR`: what a word says about the words after it
unfoldable pub data_at : List ℕ → List (List ℕ) → Result Reply LogFault
data_at word words =
    if bytes_eq word (codes "id") then id_at words
    else if bytes_eq word (codes "message") then message_reply_at words
    else if bytes_eq word (codes "waiting") then queuing_status_at words
    else if bytes_eq word (codes "refresh") then sampling_status_at words
    else Err UnknownReply

-- after `NO_ERROR`: nothing, or data
abbrev pub behind_no_error : List (List ℕ) → Result Reply LogFault
behind_no_error [] = Ok (replies.Code NoError)
behind_no_error (word ∷ words) = data_at word words

-- after a return code
unfoldable pub behind_code : ReturnCode → List (List ℕ) → Result Reply LogFault
behind_code NoError words = behind_no_error words
behind_code code words = whole (replies.Code code) words

-- by the first word: `not`, or a return code
unfoldable pub reply_by : List ℕ → List (List ℕ) → Result Reply LogFault
reply_by word words =
    if bytes_eq word (codes "not") then not_made_at words
    else or_unknown (code_named word) >>= λ code. behind_code code words

-- the reply that the words say
unfoldable pub reply_of : List (List ℕ) → Result Reply LogFault
reply_of words = do
  word ← first_word words
  reply_by word.0 word.1
