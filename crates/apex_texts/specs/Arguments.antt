-- The arguments of a call, from the words of a line: they are read from left to right, and reading stops at the first
-- fault.
use Rattle.std.specs.Prelude.{◌≡◌, ℕ, zero, suc, List, [], ◌∷◌, Option, Some, None, Result, Ok, Err}
use Rattle.apex_texts.specs.Prelude.{message_of_hex, Call, Moment}
use Rattle.apex_types.specs.Name.{name_of}
use Rattle.apex_types.specs.declared.call.Call.TheVariants as calls
use Rattle.apex_texts.specs.declared.arguments.TheConstants.{MOMENT_LIMIT, NUMBER_LIMIT}
use Rattle.apex_texts.specs.declared.line_fault.LineFault.{LineFault}
use Rattle.apex_texts.specs.declared.line_fault.LineFault.TheVariants as faults
use Rattle.apex_texts.specs.declared.service.Service.{Service}
use Rattle.apex_texts.specs.declared.service.Service.TheVariants as services
use Rattle.apex_texts.specs.Text.{number_up_to}
use Rattle.apex_texts.specs.Service.{service_named, arguments_of}

infixl 10 ◌>>=◌
abbrev pub ◌>>=◌ : {A B E : Type 0} → Result A E → (A → Result B E) → Result B E
(Ok x) >>= f = f x
(Err e) >>= f = Err e

-- what a function returned, seen through `view`, is what reading gives
abbrev pub Gives : {X Y : Type 0} → (X → Y) → Result X LineFault → Result Y LineFault → Type 0
Gives view (Ok x) read = read ≡ Ok (view x)
Gives view (Err fault) read = read ≡ Err fault

-- a value, or the fault if there is none
abbrev pub or_fault : {A : Type 0} → LineFault → Option A → Result A LineFault
or_fault fault None = Err fault
or_fault fault (Some x) = Ok x

-- the value of an Ok
abbrev pub value_of : {A E : Type 0} → Result A E → Option A
value_of (Ok x) = Some x
value_of (Err e) = None

-- the name that a word gives
abbrev pub name_in : List ℕ → Option (List ℕ)
name_in word = value_of (name_of word)

-- the message that a word of hexadecimal digits gives
abbrev pub message_in : List ℕ → Option (List ℕ)
message_in word = value_of (message_of_hex word)

-- the first word, and the words after it
abbrev pub word_at : List (List ℕ) → Result (List ℕ × List (List ℕ)) LineFault
word_at [] = Err faults.TooFewWords
word_at (word ∷ words) = Ok (word, words)

-- the first word as `read` gives it, and the words after it
abbrev pub argument_at : {A : Type 0} → (List ℕ → Option A) → LineFault → List (List ℕ) → Result (A × List (List ℕ)) LineFault
argument_at read fault words = do
  word ← word_at words
  value ← or_fault fault (read word.0)
  Ok (value, word.1)

abbrev pub number_at : List (List ℕ) → Result (ℕ × List (List ℕ)) LineFault
number_at words = argument_at (number_up_to NUMBER_LIMIT) faults.Number words

abbrev pub period_at : List (List ℕ) → Result (ℕ × List (List ℕ)) LineFault
period_at words = argument_at (number_up_to MOMENT_LIMIT) faults.Number words

abbrev pub name_at : List (List ℕ) → Result (List ℕ × List (List ℕ)) LineFault
name_at words = argument_at name_in faults.Name words

abbrev pub message_at : List (List ℕ) → Result (List ℕ × List (List ℕ)) LineFault
message_at words = argument_at message_in faults.Message words

-- the call to a service with these words as arguments
unfoldable pub call_at : Service → List (List ℕ) → Result Call LineFault
call_at services.CreateSampling words = do
  name ← name_at words
  size ← number_at name.1
  direction ← number_at size.1
  refresh ← period_at direction.1
  Ok (calls.CreateSampling name.0 size.0 direction.0 refresh.0)
call_at services.WriteSampling words = do
  id ← number_at words
  message ← message_at id.1
  Ok (calls.WriteSampling id.0 message.0)
call_at services.ReadSampling words = do
  id ← number_at words
  Ok (calls.ReadSampling id.0)
call_at services.SamplingId words = do
  name ← name_at words
  Ok (calls.SamplingId name.0)
call_at services.SamplingStatus words = do
  id ← number_at words
  Ok (calls.SamplingStatus id.0)
call_at services.CreateQueuing words = do
  name ← name_at words
  size ← number_at name.1
  depth ← number_at size.1
  direction ← number_at depth.1
  discipline ← number_at direction.1
  Ok (calls.CreateQueuing name.0 size.0 depth.0 direction.0 discipline.0)
call_at services.SendQueuing words = do
  id ← number_at words
  message ← message_at id.1
  Ok (calls.SendQueuing id.0 message.0)
call_at services.ReceiveQueuing words = do
  id ← number_at words
  Ok (calls.ReceiveQueuing id.0)
call_at services.QueuingId words = do
  name ← name_at words
  Ok (calls.QueuingId name.0)
call_at services.QueuingStatus words = do
  id ← number_at words
  Ok (calls.QueuingStatus id.0)
call_at services.ClearQueuing words = do
  id ← number_at words
  Ok (calls.ClearQueuing id.0)
call_at services.SetMode words = do
  mode ← number_at words
  Ok (calls.SetMode mode.0)

-- exactly this number of words
abbrev pub exactly : ℕ → List (List ℕ) → Result (List (List ℕ)) LineFault
exactly zero [] = Ok []
exactly zero (word ∷ words) = Err faults.TooManyWords
exactly (suc count) [] = Err faults.TooFewWords
exactly (suc count) (word ∷ words) = do
  rest ← exactly count words
  Ok (word ∷ rest)

-- the identifier, from the only word
abbrev pub id_in : List (List ℕ) → Result ℕ LineFault
id_in words = do
  arguments ← exactly 1 words
  id ← number_at arguments
  Ok id.0

-- ARGUMENTS: the number of words that the service takes, and then what each of them is
unfoldable pub call_with : Service → List (List ℕ) → Result Call LineFault
call_with service words = do
  arguments ← exactly (arguments_of service) words
  call_at service arguments

-- an identifier and a message
unfoldable pub id_and_message : List (List ℕ) → Result (ℕ × List ℕ) LineFault
id_and_message words = do
  arguments ← exactly 2 words
  id ← number_at arguments
  message ← message_at id.1
  Ok (id.0, message.0)

-- CALL ARGUMENTS
unfoldable pub call_of : List ℕ → List (List ℕ) → Result Call LineFault
call_of word words = do
  service ← or_fault faults.UnknownCall (service_named word)
  call_with service words

-- MOMENT
abbrev pub moment_of : List ℕ → Result Moment LineFault
moment_of word = do
  nanoseconds ← or_fault faults.Moment (number_up_to MOMENT_LIMIT word)
  Ok (record { 0 = nanoseconds })
