-- Replies as C gives and takes them: numbers, and beside them the bytes of a message.
use Rattle.std.specs.Prelude.{ℕ, ◌==◌, if◌then◌else◌, List, Option, None, Some, Result, Ok, Err}
use Rattle.apex_types.specs.Direction.{number_of as direction_number}
use Rattle.apex_types.specs.ReturnCode.{number_of as number_of_code}
use Rattle.apex_types.specs.Validity.{number_of as validity_number}
use Rattle.apex_types.specs.declared.direction.Direction.{Direction}
use Rattle.apex_types.specs.declared.direction.Direction.TheVariants.{Source, Destination}
use Rattle.apex_types.specs.declared.reply.Reply.{Reply}
use Rattle.apex_types.specs.declared.reply.Reply.TheVariants as reply
use Rattle.apex_types.specs.declared.return_code.ReturnCode.{ReturnCode}
use Rattle.apex_types.specs.declared.return_code.ReturnCode.TheVariants as code
use Rattle.apex_types.specs.declared.validity.Validity.{Validity}
use Rattle.apex_types.specs.declared.validity.Validity.TheVariants.{Invalid, Valid}
use Rattle.apex_texts.specs.declared.service.Service.{Service}
use Rattle.apex_texts.specs.declared.service.Service.TheVariants as service
use Rattle.apex_c.specs.Asked.{message_asked}
use Rattle.apex_c.specs.declared.answer.TheConstants.{NO_REPLY, NO_SERVICE, NOT_MADE}
use Rattle.apex_c.specs.declared.replies.NumberedReply.{NumberedReply}

-- ---- a reply of numbers

abbrev pub code_numbered : ℕ → Option ReturnCode
code_numbered number =
    if number == 0 then Some code.NoError
    else if number == 1 then Some code.NoAction
    else if number == 2 then Some code.NotAvailable
    else if number == 3 then Some code.InvalidParam
    else if number == 4 then Some code.InvalidConfig
    else if number == 5 then Some code.InvalidMode
    else if number == 6 then Some code.TimedOut
    else None

abbrev pub direction_numbered : ℕ → Option Direction
direction_numbered number = if number == 0 then Some Source else if number == 1 then Some Destination else None

abbrev pub validity_numbered : ℕ → Option Validity
validity_numbered number = if number == 0 then Some Invalid else if number == 1 then Some Valid else None

abbrev pub received_reply : Result (List ℕ) ℕ → Result Reply ℕ
received_reply (Ok message) = Ok (reply.Received message)
received_reply (Err number) = Err number

abbrev pub read_reply : Option Validity → Result (List ℕ) ℕ → Result Reply ℕ
read_reply validity (Err number) = Err number
read_reply None (Ok message) = Err NO_REPLY
read_reply (Some validity) (Ok message) = Ok (reply.Read message validity)

abbrev pub queuing_status_reply : NumberedReply → Option Direction → Result Reply ℕ
queuing_status_reply given None = Err NO_REPLY
queuing_status_reply given (Some direction) = Ok (reply.QueuingStatus given.waiting given.depth given.size direction)

abbrev pub sampling_status_reply : NumberedReply → Option Direction → Option Validity → Result Reply ℕ
sampling_status_reply given None last = Err NO_REPLY
sampling_status_reply given (Some direction) None = Err NO_REPLY
sampling_status_reply given (Some direction) (Some last) = Ok (reply.SamplingStatus given.refresh given.size direction last)

-- what a service gives beside NO_ERROR
abbrev pub accepted_reply : NumberedReply → List ℕ → Service → Result Reply ℕ
accepted_reply given message service.CreateSampling = Ok (reply.Id given.id)
accepted_reply given message service.SamplingId = Ok (reply.Id given.id)
accepted_reply given message service.CreateQueuing = Ok (reply.Id given.id)
accepted_reply given message service.QueuingId = Ok (reply.Id given.id)
accepted_reply given message service.ReadSampling = read_reply (validity_numbered given.validity) (message_asked message)
accepted_reply given message service.ReceiveQueuing = received_reply (message_asked message)
accepted_reply given message service.SamplingStatus =
    sampling_status_reply given (direction_numbered given.direction) (validity_numbered given.validity)
accepted_reply given message service.QueuingStatus = queuing_status_reply given (direction_numbered given.direction)
accepted_reply given message _ = Ok (reply.Code code.NoError)

abbrev pub reply_coded : NumberedReply → List ℕ → Service → Option ReturnCode → Result Reply ℕ
reply_coded given message service None = Err NO_REPLY
reply_coded given message service (Some code.NoError) = accepted_reply given message service
reply_coded given message service (Some other) = Ok (reply.Code other)

-- the reply of a service, or the number that says why it isn't one
abbrev pub reply_of_service : NumberedReply → List ℕ → Service → Result Reply ℕ
reply_of_service given message service =
    if given.code == NOT_MADE then Ok reply.NotMade else reply_coded given message service (code_numbered given.code)

abbrev pub reply_of_found : NumberedReply → List ℕ → Option Service → Result Reply ℕ
reply_of_found given message None = Err NO_SERVICE
reply_of_found given message (Some service) = reply_of_service given message service

-- ---- the numbers of a reply; a value that it lacks is 0

abbrev pub nothing : NumberedReply
nothing = record { refresh = 0; code = 0; id = 0; waiting = 0; depth = 0; size = 0; direction = 0; validity = 0 }

abbrev pub numbers_of : Reply → NumberedReply
numbers_of reply.NotMade = record nothing { code = NOT_MADE }
numbers_of (reply.Code given) = record nothing { code = number_of_code given }
numbers_of (reply.Id id) = record nothing { id = id }
numbers_of (reply.Received message) = nothing
numbers_of (reply.Read message validity) = record nothing { validity = validity_number validity }
numbers_of (reply.QueuingStatus waiting depth size direction) =
    record nothing { waiting = waiting; depth = depth; size = size; direction = direction_number direction }
numbers_of (reply.SamplingStatus refresh size direction last) =
    record nothing { refresh = refresh; size = size; direction = direction_number direction; validity = validity_number last }
