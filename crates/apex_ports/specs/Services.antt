-- The answers of the services, and the replies that they stand for.
use Rattle.std.specs.Prelude.{ℕ, Bool, true, false, List, length, take, Option, Some, None, Result, Ok, Err}
use Rattle.apex_types.specs.declared.call.Call.{Call}
use Rattle.apex_types.specs.declared.call.Call.TheVariants.{SendQueuing, ReceiveQueuing, WriteSampling, ReadSampling}
use Rattle.apex_types.specs.declared.reply.Reply.{Reply}
use Rattle.apex_types.specs.declared.reply.Reply.TheVariants.{NotMade, Code, Received, Read}
use Rattle.apex_types.specs.declared.return_code.ReturnCode.{ReturnCode}
use Rattle.apex_types.specs.declared.validity.Validity.{Validity}

-- the length of the message that a call sends or writes, in bytes
abbrev pub length_sent : Call → ℕ
length_sent (SendQueuing id message) = length message
length_sent (WriteSampling id message) = length message
length_sent call = 0

-- whether no reply to the call has a message
abbrev pub is_plain : Call → Bool
is_plain (ReceiveQueuing id) = false
is_plain (ReadSampling id) = false
is_plain call = true

-- the length of the reply's message, in bytes
abbrev pub message_length : Reply → ℕ
message_length (Received message) = length message
message_length (Read message validity) = length message
message_length reply = 0

-- the reply with only this return code; without one the call isn't made
abbrev pub reply_coded : Option ReturnCode → Reply
reply_coded None = NotMade
reply_coded (Some code) = Code code

-- the reply with a message of this length, from the first bytes of the buffer
abbrev pub reply_received : Result ℕ (Option ReturnCode) → List ℕ → Reply
reply_received (Ok count) buffer = Received (take count buffer)
reply_received (Err code) buffer = reply_coded code

abbrev pub length_received : Result ℕ (Option ReturnCode) → ℕ
length_received (Ok count) = count
length_received (Err code) = 0

-- the same with the message's validity
abbrev pub reply_read : Result (ℕ × Validity) (Option ReturnCode) → List ℕ → Reply
reply_read (Ok read) buffer = Read (take read.0 buffer) read.1
reply_read (Err code) buffer = reply_coded code

abbrev pub length_read : Result (ℕ × Validity) (Option ReturnCode) → ℕ
length_read (Ok read) = read.0
length_read (Err code) = 0
