-- What C asks for: a call, or the number that says why it isn't one. If it isn't one, nothing changes.
use Rattle.std.specs.Prelude.{ℕ, ◌≡◌, nat_lt, if◌then◌else◌, List, length, Option, None, Some, Result, Ok, Err}
use Rattle.apex_types.specs.Name.{name_of}
use Rattle.apex_types.specs.declared.call.Call.{Call}
use Rattle.apex_types.specs.declared.call.Call.TheVariants as call
use Rattle.apex_types.specs.declared.message.TheConstants.{MESSAGE_LIMIT}
use Rattle.apex_types.specs.declared.moment.Moment.{Moment}
use Rattle.apex_types.specs.declared.name.NameFault.{NameFault}
use Rattle.apex_types.specs.declared.reply.Reply.{Reply}
use Rattle.apex_ports.specs.ReplyTable.{size_at}
use Rattle.apex_c.specs.Calls.{answer_in, ports_after, reply_in}
use Rattle.apex_c.specs.Held.{PortsHeld}
use Rattle.apex_c.specs.declared.answer.TheConstants.{NO_NAME, SHORT_BUFFER, TOO_LONG}
use Rattle.apex_c.specs.declared.lending.Lending.{Lending}
use Rattle.apex_c.specs.declared.lending.Lending.TheVariants.{Receive, Read}

abbrev pub Asked : Type 0
Asked = Result Call ℕ

-- ---- what is answered, and what changes

abbrev pub asked_answer : PortsHeld → ℕ → Moment → Asked → ℕ
asked_answer ports p at (Ok call) = answer_in ports p at call
asked_answer ports p at (Err number) = number

abbrev pub asked_ports : PortsHeld → ℕ → Moment → Asked → PortsHeld
asked_ports ports p at (Ok call) = ports_after ports p at call
asked_ports ports p at (Err number) = ports

-- what was asked is answered, and has changed what it changes
abbrev pub IsCalled : PortsHeld → PortsHeld → ℕ → Moment → Asked → ℕ → Type 0
IsCalled old new p at asked answer = (answer ≡ asked_answer old p at asked) × (new ≡ asked_ports old p at asked)

-- the reply, if a call is asked for and a partition of the ports makes it
abbrev pub asked_reply : PortsHeld → ℕ → Moment → Asked → Option Reply
asked_reply ports p at (Ok call) = reply_in ports p at call
asked_reply ports p at (Err number) = None

-- a call with a name or a message, if bytes are one
abbrev pub asked_with : (List ℕ → Call) → Result (List ℕ) ℕ → Asked
asked_with call (Ok bytes) = Ok (call bytes)
asked_with call (Err number) = Err number

-- ---- calls with a name, which the text may not be

-- the name that a text gives, or the number that says that it gives none
abbrev pub name_asked : Result (List ℕ) NameFault → Result (List ℕ) ℕ
name_asked (Ok name) = Ok name
name_asked (Err fault) = Err NO_NAME

abbrev pub create_sampling : List ℕ → ℕ → ℕ → ℕ → Asked
create_sampling text size direction refresh =
    asked_with (λ name. call.CreateSampling name size direction refresh) (name_asked (name_of text))

abbrev pub create_queuing : List ℕ → ℕ → ℕ → ℕ → ℕ → Asked
create_queuing text size depth direction discipline =
    asked_with (λ name. call.CreateQueuing name size depth direction discipline) (name_asked (name_of text))

abbrev pub sampling_id : List ℕ → Asked
sampling_id text = asked_with (λ name. call.SamplingId name) (name_asked (name_of text))

abbrev pub queuing_id : List ℕ → Asked
queuing_id text = asked_with (λ name. call.QueuingId name) (name_asked (name_of text))

-- ---- entries of a log, whose messages have a greatest length

-- the message that bytes are, or the number that says that they are too many
abbrev pub message_asked : List ℕ → Result (List ℕ) ℕ
message_asked message = if nat_lt MESSAGE_LIMIT (length message) then Err TOO_LONG else Ok message

-- the call of an entry, or the number that says that no entry has its message
abbrev pub entry_call : Call → Asked
entry_call (call.WriteSampling id message) = asked_with (λ bytes. call.WriteSampling id bytes) (message_asked message)
entry_call (call.SendQueuing id message) = asked_with (λ bytes. call.SendQueuing id bytes) (message_asked message)
entry_call other = Ok other

abbrev pub entry_asked : Asked → Asked
entry_asked (Ok call) = entry_call call
entry_asked (Err number) = Err number

-- ---- calls that write a message into a buffer of this many bytes, which may have no room for the channel's messages

-- the bytes that a message may take at the port with the identifier
abbrev pub room_at : PortsHeld → ℕ → ℕ → ℕ
room_at None p id = 0
room_at (Some ports) p id = size_at ports.config p id

abbrev pub with_buffer : ℕ → ℕ → Call → Asked
with_buffer bytes room call = if nat_lt bytes room then Err SHORT_BUFFER else Ok call

-- the call of a service that lends a message
abbrev pub lending_call : Lending → ℕ → Call
lending_call Receive id = call.ReceiveQueuing id
lending_call Read id = call.ReadSampling id

abbrev pub lending : Lending → PortsHeld → ℕ → ℕ → ℕ → Asked
lending service ports p bytes id = with_buffer bytes (room_at ports p id) (lending_call service id)
