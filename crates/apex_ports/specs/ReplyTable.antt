-- The reply table: the rows of each service. The first check that applies gives the row, and the row gives the reply.
use Rattle.std.specs.Prelude.{ℕ, ◌==◌, nat_lt, not, if◌then◌else◌, List, [], ◌∷◌, length, Option, Some, None}
use Rattle.apex_types.specs.Direction.{number_of}
use Rattle.apex_types.specs.Mode.{mode_numbered}
use Rattle.apex_types.specs.Sample.{validity_at}
use Rattle.apex_types.specs.declared.call.Call.{Call}
use Rattle.apex_types.specs.declared.call.Call.TheVariants as call
use Rattle.apex_types.specs.declared.mode.Mode.{Mode}
use Rattle.apex_types.specs.declared.mode.Mode.TheVariants.{Normal, WarmStart}
use Rattle.apex_types.specs.declared.moment.Moment.{Moment}
use Rattle.apex_types.specs.declared.reply.Reply.{Reply}
use Rattle.apex_types.specs.declared.reply.Reply.TheVariants as reply
use Rattle.apex_types.specs.declared.return_code.ReturnCode.TheVariants.{NoError, NoAction, NotAvailable, InvalidParam}
use Rattle.apex_types.specs.declared.sample.Sample.{Sample}
use Rattle.apex_types.specs.declared.validity.Validity.{Validity}
use Rattle.apex_module.specs.Configuration.{Configuration, channel_of, port_of, depth_of_kind, refresh_of_kind}
use Rattle.apex_module.specs.declared.channel.Channel.{Channel}
use Rattle.apex_module.specs.declared.port.Port.{Port}
use Rattle.apex_ports.specs.declared.rows.Row.{Row}
use Rattle.apex_ports.specs.declared.rows.Row.TheVariants as row
use Rattle.apex_ports.specs.declared.rows.Row.TheVariants.{Refused, Created, Identified, Sent, OldestReceived, Cleared, Written, LastRead, ModeSet}
use Rattle.apex_ports.specs.declared.rows.Refusal.TheVariants.{NotConfigured, AlreadyCreated, SizeDiffers, DepthDiffers, DirectionDiffers, RefreshDiffers, UnknownDiscipline, InNormal, NotCreated, NoSuchPort, EmptyMessage, MessageTooLong, NotSource, NotDestination, QueueFull, QueueEmpty, NeverWritten, UnknownMode, AlreadyNormal, WarmStartInColdStart}
use Rattle.apex_ports.specs.History.{History}
use Rattle.apex_ports.specs.Modes.{is_idle, is_normal, is_cold_start}
use Rattle.apex_ports.specs.Ports.{is_source, NamedPort, queuing_named, sampling_named}
use Rattle.apex_ports.specs.Rows.{code_of}
use Rattle.apex_ports.specs.Seen.{Seen, seen, queuing_port, sampling_port}

-- ---- what a port has from its channel and from the configuration

abbrev pub size_in : Option Channel → ℕ
size_in None = 0
size_in (Some channel) = channel.size

-- the maximum length of a message, in bytes
abbrev pub size_of : Configuration → Port → ℕ
size_of config port = size_in (channel_of config port.channel)

abbrev pub size_of_port : Configuration → Option Port → ℕ
size_of_port config None = 0
size_of_port config (Some port) = size_of config port

-- the same for the partition's port with an identifier; 0 if there is no such port
abbrev pub size_at : Configuration → ℕ → ℕ → ℕ
size_at config partition id = size_of_port config (port_of config partition id)

abbrev pub depth_in : Option Channel → ℕ
depth_in None = 0
depth_in (Some channel) = depth_of_kind channel.kind

-- the number of messages that can wait on a channel; 0 for a sampling channel
abbrev pub depth_of : Configuration → ℕ → ℕ
depth_of config channel = depth_in (channel_of config channel)

-- the maximum length of a message on a channel
abbrev pub channel_size : Configuration → ℕ → ℕ
channel_size config channel = size_in (channel_of config channel)

-- ---- creation, and identifiers by name

-- CREATE_QUEUING_PORT, for the configured queuing port with the name
abbrev pub create_queuing_row : Configuration → Seen → Option NamedPort → ℕ → ℕ → ℕ → ℕ → Row
create_queuing_row config seen None size depth direction discipline = Refused NotConfigured
create_queuing_row config seen (Some named) size depth direction discipline =
    if seen.created named.id then Refused AlreadyCreated
    else if not (size == size_of config named.port) then Refused SizeDiffers
    else if not (depth == depth_of config named.port.channel) then Refused DepthDiffers
    else if not (direction == number_of named.port.direction) then Refused DirectionDiffers
    else if nat_lt 1 discipline then Refused UnknownDiscipline
    else if is_normal seen.mode then Refused InNormal
    else Created named.id

-- CREATE_SAMPLING_PORT, for the configured sampling port with the name
abbrev pub create_sampling_row : Configuration → Seen → Option NamedPort → ℕ → ℕ → ℕ → Row
create_sampling_row config seen None size direction refresh = Refused NotConfigured
create_sampling_row config seen (Some named) size direction refresh =
    if seen.created named.id then Refused AlreadyCreated
    else if not (size == size_of config named.port) then Refused SizeDiffers
    else if not (direction == number_of named.port.direction) then Refused DirectionDiffers
    else if not (refresh == refresh_of_kind named.port.kind) then Refused RefreshDiffers
    else if is_normal seen.mode then Refused InNormal
    else Created named.id

-- GET_QUEUING_PORT_ID and GET_SAMPLING_PORT_ID, for the configured port of the kind with the name
abbrev pub id_row : Seen → Option NamedPort → Row
id_row seen None = Refused NotCreated
id_row seen (Some named) = if seen.created named.id then Identified named.id else Refused NotCreated

-- ---- queuing ports: the identifier, and its port if that is created and of this kind

-- SEND_QUEUING_MESSAGE
abbrev pub send_row : Configuration → Seen → ℕ → Option Port → List ℕ → Row
send_row config seen id None message = Refused NoSuchPort
send_row config seen id (Some port) message =
    if length message == 0 then Refused EmptyMessage
    else if nat_lt (size_of config port) (length message) then Refused MessageTooLong
    else if not (is_source port.direction) then Refused NotSource
    else if length (seen.waiting id) == depth_of config port.channel then Refused QueueFull
    else Sent

abbrev pub oldest_row : ℕ → List (List ℕ) → Row
oldest_row id [] = Refused QueueEmpty
oldest_row id (message ∷ rest) = OldestReceived id

-- RECEIVE_QUEUING_MESSAGE
abbrev pub receive_row : Seen → ℕ → Option Port → Row
receive_row seen id None = Refused NoSuchPort
receive_row seen id (Some port) = if is_source port.direction then Refused NotDestination else oldest_row id (seen.waiting id)

-- CLEAR_QUEUING_PORT, also if no message waits
abbrev pub clear_row : Option Port → Row
clear_row None = Refused NoSuchPort
clear_row (Some port) = if is_source port.direction then Refused NotDestination else Cleared

-- ---- sampling ports: the identifier, and its port if that is created and of this kind

-- WRITE_SAMPLING_MESSAGE
abbrev pub write_row : Configuration → Option Port → List ℕ → Row
write_row config None message = Refused NoSuchPort
write_row config (Some port) message =
    if length message == 0 then Refused EmptyMessage
    else if nat_lt (size_of config port) (length message) then Refused MessageTooLong
    else if not (is_source port.direction) then Refused NotSource
    else Written

abbrev pub last_row : Moment → ℕ → ℕ → Option Sample → Row
last_row now id refresh None = Refused NeverWritten
last_row now id refresh (Some sample) = LastRead id (validity_at now.0 sample.at.0 refresh)

-- READ_SAMPLING_MESSAGE
abbrev pub read_row : Seen → Moment → ℕ → Option Port → Row
read_row seen now id None = Refused NoSuchPort
read_row seen now id (Some port) =
    if is_source port.direction then Refused NotDestination else last_row now id (refresh_of_kind port.kind) (seen.sample id)

-- GET_QUEUING_PORT_STATUS and GET_SAMPLING_PORT_STATUS: the row of the status, if the port exists
abbrev pub status_row : Row → Option Port → Row
status_row status None = Refused NoSuchPort
status_row status (Some port) = status

-- ---- modes

-- SET_PARTITION_MODE, in the partition's present mode
abbrev pub set_mode_row : Mode → Option Mode → Row
set_mode_row present None = Refused UnknownMode
set_mode_row present (Some Normal) = if is_normal present then Refused AlreadyNormal else ModeSet
set_mode_row present (Some WarmStart) = if is_cold_start present then Refused WarmStartInColdStart else ModeSet
set_mode_row present (Some _) = ModeSet

-- ---- every call

-- the row of a partition that isn't in IDLE
abbrev pub service_row : Configuration → Seen → ℕ → Moment → Call → Row
service_row config seen p now (call.CreateSampling name size direction refresh) =
    create_sampling_row config seen (sampling_named config p name) size direction refresh
service_row config seen p now (call.WriteSampling id message) = write_row config (sampling_port config seen p id) message
service_row config seen p now (call.ReadSampling id) = read_row seen now id (sampling_port config seen p id)
service_row config seen p now (call.SamplingId name) = id_row seen (sampling_named config p name)
service_row config seen p now (call.SamplingStatus id) = status_row (row.SamplingStatus id) (sampling_port config seen p id)
service_row config seen p now (call.CreateQueuing name size depth direction discipline) =
    create_queuing_row config seen (queuing_named config p name) size depth direction discipline
service_row config seen p now (call.SendQueuing id message) = send_row config seen id (queuing_port config seen p id) message
service_row config seen p now (call.ReceiveQueuing id) = receive_row seen id (queuing_port config seen p id)
service_row config seen p now (call.QueuingId name) = id_row seen (queuing_named config p name)
service_row config seen p now (call.QueuingStatus id) = status_row (row.QueuingStatus id) (queuing_port config seen p id)
service_row config seen p now (call.ClearQueuing id) = clear_row (queuing_port config seen p id)
service_row config seen p now (call.SetMode number) = set_mode_row seen.mode (mode_numbered number)

-- in IDLE no service is performed
abbrev pub row_of : Configuration → Seen → ℕ → Moment → Call → Row
row_of config seen p now call = if is_idle seen.mode then row.Idle else service_row config seen p now call

-- ---- the reply of a row

abbrev pub oldest_reply : List (List ℕ) → Reply
oldest_reply [] = reply.Code NotAvailable
oldest_reply (message ∷ rest) = reply.Received message

abbrev pub last_reply : Validity → Option Sample → Reply
last_reply validity None = reply.Code NoAction
last_reply validity (Some sample) = reply.Read sample.message validity

abbrev pub queuing_status_reply : Configuration → Seen → ℕ → Option Port → Reply
queuing_status_reply config seen id None = reply.Code InvalidParam
queuing_status_reply config seen id (Some port) =
    reply.QueuingStatus (length (seen.waiting id)) (depth_of config port.channel) (size_of config port) port.direction

abbrev pub sampling_status_reply : Configuration → Seen → ℕ → Option Port → Reply
sampling_status_reply config seen id None = reply.Code InvalidParam
sampling_status_reply config seen id (Some port) =
    reply.SamplingStatus (refresh_of_kind port.kind) (size_of config port) port.direction (seen.last id)

abbrev pub reply_of : Configuration → Seen → ℕ → Row → Reply
reply_of config seen p row.Idle = reply.NotMade
reply_of config seen p (Refused refusal) = reply.Code (code_of refusal)
reply_of config seen p (Created id) = reply.Id id
reply_of config seen p (Identified id) = reply.Id id
reply_of config seen p Sent = reply.Code NoError
reply_of config seen p (OldestReceived id) = oldest_reply (seen.waiting id)
reply_of config seen p Cleared = reply.Code NoError
reply_of config seen p (row.QueuingStatus id) = queuing_status_reply config seen id (queuing_port config seen p id)
reply_of config seen p Written = reply.Code NoError
reply_of config seen p (LastRead id validity) = last_reply validity (seen.sample id)
reply_of config seen p (row.SamplingStatus id) = sampling_status_reply config seen id (sampling_port config seen p id)
reply_of config seen p ModeSet = reply.Code NoError

-- what the partition sees and the call give the row, and the row gives the reply
abbrev pub reply_to : Configuration → History → ℕ → Moment → Call → Reply
reply_to config history p now call = reply_of config (seen config history p) p (row_of config (seen config history p) p now call)
