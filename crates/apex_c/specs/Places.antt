-- What C gets from a reply, each in its place. A place is unchanged if the reply has nothing for it.
use Rattle.std.specs.Prelude.{ℕ, ◌≡◌, List, length, drop, ◌++◌, Option, Some, None}
use Rattle.std.specs.Result.{result_ok}
use Rattle.apex_types.specs.Direction.{number_of}
use Rattle.apex_types.specs.Validity.{number_of as validity_number}
use Rattle.apex_types.specs.declared.reply.Reply.{Reply}
use Rattle.apex_types.specs.declared.reply.Reply.TheVariants.{Id, Received, Read, QueuingStatus, SamplingStatus}
use Rattle.apex_c.specs.Found.{Found, answer_of}
use Rattle.apex_c.specs.declared.queuing.QueuingPortStatus.{QueuingPortStatus}
use Rattle.apex_c.specs.declared.sampling.SamplingPortStatus.{SamplingPortStatus}

abbrev pub id_after : Option Reply → ℕ → ℕ
id_after (Some (Id id)) given = id
id_after _ given = given

-- the message of the reply to a receive or a read
abbrev pub message_in : Option Reply → Option (List ℕ)
message_in (Some (Received message)) = Some message
message_in (Some (Read message validity)) = Some message
message_in _ = None

-- the first bytes of the buffer are the message's, the others stay
abbrev pub buffer_after : Option (List ℕ) → List ℕ → List ℕ
buffer_after None given = given
buffer_after (Some message) given = message ++ drop (length message) given

abbrev pub length_after : Option (List ℕ) → ℕ → ℕ
length_after None given = given
length_after (Some message) given = length message

-- a message, if there is one, is in the buffer, and its length in its place
abbrev pub IsMessagePut : Option (List ℕ) → List ℕ → List ℕ → ℕ → ℕ → Type 0
IsMessagePut message old new old_length new_length = (new ≡ buffer_after message old) × (new_length ≡ length_after message old_length)

-- the same of bytes that a reader finds, with what it answers
abbrev pub AreBytesPut : Found (List ℕ) → ℕ → List ℕ → List ℕ → ℕ → ℕ → Type 0
AreBytesPut found answer old new old_length new_length =
    (answer ≡ answer_of found) × IsMessagePut (result_ok found) old new old_length new_length

abbrev pub validity_after : Option Reply → ℕ → ℕ
validity_after (Some (Read message validity)) given = validity_number validity
validity_after _ given = given

abbrev pub queuing_status_after : Option Reply → QueuingPortStatus → QueuingPortStatus
queuing_status_after (Some (QueuingStatus waiting depth size direction)) given =
    record { waiting = waiting; depth = depth; size = size; direction = number_of direction }
queuing_status_after _ given = given

abbrev pub sampling_status_after : Option Reply → SamplingPortStatus → SamplingPortStatus
sampling_status_after (Some (SamplingStatus refresh size direction last)) given =
    record { refresh = refresh; size = size; direction = number_of direction; last_validity = validity_number last }
sampling_status_after _ given = given
