-- The call of a log's line: that of a trace's line, and after the arguments of a send or a receive its time-out.
--     SERVICE ARGUMENTS timeout NANOSECONDS
--     SERVICE ARGUMENTS timeout infinite
use Rattle.std.specs.Prelude.{ℕ, if◌then◌else◌, List, [], ◌∷◌, codes, bytes_eq, Option, Some, None, option_map, Result, Ok, Err}
use Rattle.apex_logs.specs.Prelude.{Configuration, Request, MOMENT_LIMIT, LineFault, ◌>>=◌, or_fault, word_at, exactly, call_at, call_with, moment_of, number_up_to}
use Rattle.apex_types.specs.declared.call.Call.{Call}
use Rattle.apex_texts.specs.declared.line_fault.LineFault.TheVariants.{TooManyWords, UnknownCall, Number}
use Rattle.apex_texts.specs.declared.service.Service.{Service}
use Rattle.apex_texts.specs.declared.service.Service.TheVariants.{SendQueuing, ReceiveQueuing}
use Rattle.apex_texts.specs.Service.{service_named}
use Rattle.apex_texts.specs.Trace.{partition_of}
use Rattle.apex_logs.specs.declared.time_out.TimeOut.{TimeOut}
use Rattle.apex_logs.specs.declared.time_out.TimeOut.TheVariants as said

-- the time-out that a word says
abbrev pub time_out_in : List ℕ → Option TimeOut
time_out_in word =
    if bytes_eq word (codes "infinite") then Some said.Infinite
    else option_map (λ time. said.Nanoseconds time) (number_up_to MOMENT_LIMIT word)

-- the time-out that a word says, if there is a word
abbrev pub time_out_of : Option (List ℕ) → Result TimeOut LineFault
time_out_of None = Ok said.Unsaid
time_out_of (Some word) = or_fault Number (time_out_in word)

-- the word after `timeout`, which is the last
abbrev pub last_word : List (List ℕ) → Result (Option (List ℕ)) LineFault
last_word words = do
  word ← word_at words
  rest ← exactly 0 word.1
  Ok (Some word.0)

-- the word of the time-out after arguments, if there is one
abbrev pub time_out_word : List (List ℕ) → Result (Option (List ℕ)) LineFault
time_out_word [] = Ok None
time_out_word (word ∷ words) = if bytes_eq word (codes "timeout") then last_word words else Err TooManyWords

-- the call to a service with the words after its name, and its time-out: the number of words must be right, and then each
-- is read
unfoldable pub timed_call_with : Service → List (List ℕ) → Result (Call × TimeOut) LineFault
timed_call_with SendQueuing words = do
  id ← word_at words
  message ← word_at id.1
  word ← time_out_word message.1
  call ← call_at SendQueuing (id.0 ∷ message.0 ∷ [])
  time_out ← time_out_of word
  Ok (call, time_out)
timed_call_with ReceiveQueuing words = do
  id ← word_at words
  word ← time_out_word id.1
  call ← call_at ReceiveQueuing (id.0 ∷ [])
  time_out ← time_out_of word
  Ok (call, time_out)
timed_call_with service words = do
  call ← call_with service words
  Ok (call, said.Unsaid)

-- CALL ARGUMENTS, and a time-out
unfoldable pub timed_call_of : List ℕ → List (List ℕ) → Result (Call × TimeOut) LineFault
timed_call_of word words = do
  service ← or_fault UnknownCall (service_named word)
  timed_call_with service words

-- MOMENT PARTITION CALL ARGUMENTS, and a time-out, with the faults in the order in which a line is looked at
unfoldable pub logged_request_at : Configuration → List ℕ → List (List ℕ) → Result (Request × TimeOut) LineFault
logged_request_at config moment words = do
  partition ← word_at words
  call ← word_at partition.1
  at ← moment_of moment
  p ← partition_of config partition.0
  asked ← timed_call_of call.0 call.1
  Ok (record { partition = p; at = at; call = asked.0 }, asked.1)

-- MOMENT CALL ARGUMENTS, and a time-out, of a partition that is known
unfoldable pub own_request_at : ℕ → List ℕ → List (List ℕ) → Result (Request × TimeOut) LineFault
own_request_at partition moment words = do
  call ← word_at words
  at ← moment_of moment
  asked ← timed_call_of call.0 call.1
  Ok (record { partition = partition; at = at; call = asked.0 }, asked.1)
