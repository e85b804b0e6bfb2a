-- What a history did to a channel.
use Rattle.std.specs.Prelude.{ℕ, Bool, true, false, ◌==◌, ◌&&◌, ◌-◌, if◌then◌else◌, List, [], ◌∷◌, ◌++◌, length, drop, map, filter, slice_get, Option, Some, None, unwrap_or, fold}
use Rattle.std.specs.List.{filter_map}
use Rattle.std.specs.Option.{option_to_list}
use Rattle.apex_types.specs.declared.call.Call.{Call}
use Rattle.apex_types.specs.declared.call.Call.TheVariants.{SendQueuing, ReceiveQueuing, ClearQueuing, WriteSampling, ReadSampling}
use Rattle.apex_types.specs.declared.moment.Moment.{Moment}
use Rattle.apex_types.specs.declared.reply.Reply.{Reply}
use Rattle.apex_types.specs.declared.reply.Reply.TheVariants.{Received, Read}
use Rattle.apex_types.specs.declared.sample.Sample.{Sample}
use Rattle.apex_types.specs.declared.taken.Taken.{Taken}
use Rattle.apex_types.specs.declared.validity.Validity.{Validity}
use Rattle.apex_types.specs.declared.validity.Validity.TheVariants.{Invalid}
use Rattle.apex_module.specs.Configuration.{Configuration, port_of}
use Rattle.apex_ports.specs.declared.history.Entry.{Entry}
use Rattle.apex_ports.specs.History.{History}
use Rattle.apex_ports.specs.Modes.{is_code_no_error}
use Rattle.apex_ports.specs.Ports.{is_source_of, is_destination_of, creates}

-- ---- queuing channels

-- the message that a call sends into the channel (SEND_QUEUING_MESSAGE at the channel's source)
abbrev pub message_sent : Configuration → ℕ → ℕ → Call → Option (List ℕ)
message_sent config channel partition (SendQueuing id message) =
    if is_source_of channel (port_of config partition id) then Some message else None
message_sent config channel partition _ = None

-- the message that an entry put into the channel
abbrev pub message_accepted : Configuration → ℕ → Entry → Option (List ℕ)
message_accepted config channel entry =
    if is_code_no_error entry.reply then message_sent config channel entry.partition entry.call else None

-- a call at the channel's destination (RECEIVE_QUEUING_MESSAGE)
abbrev pub is_receive : Configuration → ℕ → ℕ → Call → Bool
is_receive config channel partition (ReceiveQueuing id) = is_destination_of channel (port_of config partition id)
is_receive config channel partition _ = false

abbrev pub message_in : Reply → Option (List ℕ)
message_in (Received message) = Some message
message_in _ = None

-- the message that an entry received from the channel
abbrev pub message_received : Configuration → ℕ → Entry → Option (List ℕ)
message_received config channel entry =
    if is_receive config channel entry.partition entry.call then message_in entry.reply else None

-- the messages that were accepted, in order
abbrev pub accepted_on : Configuration → ℕ → History → List (List ℕ)
accepted_on config channel history = filter_map (message_accepted config channel) history

-- the messages that were received, in order
abbrev pub received_on : Configuration → ℕ → History → List (List ℕ)
received_on config channel history = filter_map (message_received config channel) history

-- a call at the channel's destination (CLEAR_QUEUING_PORT)
abbrev pub is_clear : Configuration → ℕ → ℕ → Call → Bool
is_clear config channel partition (ClearQueuing id) = is_destination_of channel (port_of config partition id)
is_clear config channel partition _ = false

-- the entry discards all messages that wait on the channel
abbrev pub clears : Configuration → ℕ → Entry → Bool
clears config channel entry = is_code_no_error entry.reply && is_clear config channel entry.partition entry.call

abbrev pub as_received : List ℕ → Taken
as_received message = record { message = message; cleared = false }

abbrev pub as_cleared : List ℕ → Taken
as_cleared message = record { message = message; cleared = true }

-- what an entry takes out of the channel if these messages wait
abbrev pub taken_by : Configuration → ℕ → List (List ℕ) → Entry → List Taken
taken_by config channel waiting entry =
    if clears config channel entry then map as_cleared waiting
    else map as_received (option_to_list (message_received config channel entry))

-- all messages taken after these entries, if they follow a history in which these messages were taken
abbrev pub taken_after : Configuration → ℕ → History → List Taken → List Entry → List Taken
taken_after config channel before taken [] = taken
taken_after config channel before taken (entry ∷ rest) =
    let waiting = drop (length taken) (accepted_on config channel before) in
    taken_after config channel (before ++ entry ∷ []) (taken ++ taken_by config channel waiting entry) rest

-- the messages that were taken out of the channel, received or cleared, in order
abbrev pub taken_on : Configuration → ℕ → History → List Taken
taken_on config channel history = taken_after config channel [] [] history

-- the taken messages that were cleared
abbrev pub cleared_on : Configuration → ℕ → History → List Taken
cleared_on config channel history = filter (λ taken. taken.cleared) (taken_on config channel history)

abbrev pub messages_of : List Taken → List (List ℕ)
messages_of taken = map (λ one. one.message) taken

-- the messages that wait: first in, first out, identified by their index and not by their bytes
abbrev pub waiting_on : Configuration → ℕ → History → List (List ℕ)
waiting_on config channel history = drop (length (taken_on config channel history)) (accepted_on config channel history)

-- ---- sampling channels

-- the message that a call writes into the channel (WRITE_SAMPLING_MESSAGE at the channel's source)
abbrev pub message_written : Configuration → ℕ → ℕ → Call → Option (List ℕ)
message_written config channel partition (WriteSampling id message) =
    if is_source_of channel (port_of config partition id) then Some message else None
message_written config channel partition _ = None

abbrev pub sample_at : Moment → Option (List ℕ) → Option Sample
sample_at at None = None
sample_at at (Some message) = Some (record { message = message; at = at })

-- the sample that an entry wrote into the channel
abbrev pub sample_written : Configuration → ℕ → Entry → Option Sample
sample_written config channel entry =
    if is_code_no_error entry.reply then sample_at entry.at (message_written config channel entry.partition entry.call) else None

-- the samples that were written, in order
abbrev pub writes_on : Configuration → ℕ → History → List Sample
writes_on config channel history = filter_map (sample_written config channel) history

-- the sample written last: a write replaces it, a read keeps it
abbrev pub last_write_on : Configuration → ℕ → History → Option Sample
last_write_on config channel history =
    let writes = writes_on config channel history in slice_get writes (length writes - 1)

-- ---- the validity that a port read last

abbrev pub is_read : ℕ → Call → Bool
is_read id (ReadSampling number) = number == id
is_read id _ = false

abbrev pub validity_in : Reply → Option Validity
validity_in (Read message validity) = Some validity
validity_in _ = None

-- the validity that an entry showed at the port (READ_SAMPLING_MESSAGE)
abbrev pub validity_read : ℕ → ℕ → Entry → Option Validity
validity_read partition id entry =
    if is_read id entry.call && (entry.partition == partition) then validity_in entry.reply else None

-- the validity that was read last at the port; each creation makes it INVALID, until the next read
abbrev pub last_validity_of : ℕ → ℕ → History → Validity
last_validity_of partition id history =
    fold (λ last entry. if creates partition id entry then Invalid else unwrap_or (validity_read partition id entry) last) Invalid history
