-- Which ports a partition has created (CREATE_SAMPLING_PORT, CREATE_QUEUING_PORT).
use Rattle.std.specs.Prelude.{ℕ, Bool, true, false, ◌==◌, ◌&&◌, ◌||◌, not, if◌then◌else◌, ◌<◌, ◌≤◌, List, length, Option, Some, None, fold}
use Rattle.apex_types.specs.declared.call.Call.{Call}
use Rattle.apex_types.specs.declared.call.Call.TheVariants.{CreateSampling, CreateQueuing}
use Rattle.apex_types.specs.declared.direction.Direction.{Direction}
use Rattle.apex_types.specs.declared.direction.Direction.TheVariants.{Source, Destination}
use Rattle.apex_types.specs.declared.reply.Reply.{Reply}
use Rattle.apex_types.specs.declared.reply.Reply.TheVariants.{Id}
use Rattle.apex_module.specs.Configuration.{Configuration, port_of, channel_of, id_named, is_queuing_port, is_queuing_channel}
use Rattle.apex_module.specs.declared.channel.Channel.{Channel}
use Rattle.apex_module.specs.declared.port.Port.{Port}
use Rattle.apex_ports.specs.declared.history.Entry.{Entry}
use Rattle.apex_ports.specs.History.{History}
use Rattle.apex_ports.specs.Modes.{restarts}

abbrev pub is_create_sampling : Call → Bool
is_create_sampling (CreateSampling name size direction refresh) = true
is_create_sampling _ = false

abbrev pub is_create_queuing : Call → Bool
is_create_queuing (CreateQueuing name size depth direction discipline) = true
is_create_queuing _ = false

abbrev pub is_create : Call → Bool
is_create (CreateSampling name size direction refresh) = true
is_create (CreateQueuing name size depth direction discipline) = true
is_create _ = false

abbrev pub is_id : ℕ → Reply → Bool
is_id id (Id number) = number == id
is_id id _ = false

-- the entry is a create call of the partition, and its reply has the identifier
abbrev pub creates : ℕ → ℕ → Entry → Bool
creates partition id entry = (is_create entry.call && is_id id entry.reply) && (entry.partition == partition)

-- the port was created, and its partition has not restarted since
abbrev pub is_created : ℕ → ℕ → History → Bool
is_created partition id history =
    fold (λ created entry. creates partition id entry || (created && not (restarts partition entry))) false history

-- the port, if it is of this kind
abbrev pub queuing_only : Option Port → Option Port
queuing_only None = None
queuing_only (Some port) = if is_queuing_port port.kind then Some port else None

abbrev pub sampling_only : Option Port → Option Port
sampling_only None = None
sampling_only (Some port) = if is_queuing_port port.kind then None else Some port

-- a port with its identifier
pub record NamedPort : Type 0 where
  pub id : ℕ
  pub port : Port

abbrev pub with_id : ℕ → Option Port → Option NamedPort
with_id id None = None
with_id id (Some port) = Some (record { id = id; port = port })

-- the configured port with the name, created or not, if it is of this kind
abbrev pub queuing_of_id : Configuration → ℕ → Option ℕ → Option NamedPort
queuing_of_id config partition None = None
queuing_of_id config partition (Some id) = with_id id (queuing_only (port_of config partition id))

abbrev pub queuing_named : Configuration → ℕ → List ℕ → Option NamedPort
queuing_named config partition name = queuing_of_id config partition (id_named config partition name)

abbrev pub sampling_of_id : Configuration → ℕ → Option ℕ → Option NamedPort
sampling_of_id config partition None = None
sampling_of_id config partition (Some id) = with_id id (sampling_only (port_of config partition id))

abbrev pub sampling_named : Configuration → ℕ → List ℕ → Option NamedPort
sampling_named config partition name = sampling_of_id config partition (id_named config partition name)

-- an identifier is an index of the list, counted from 1
pub record IsIdentifier (ports : List Port) (id : ℕ) : Type 0 where
  pub first : 0 < id
  pub last : id ≤ length ports

-- ---- the kind and the ends of a channel

abbrev pub is_queue : Option Channel → Bool
is_queue None = false
is_queue (Some channel) = is_queuing_channel channel.kind

-- whether a channel is a queuing channel
abbrev pub is_queuing : Configuration → ℕ → Bool
is_queuing config channel = is_queue (channel_of config channel)

abbrev pub is_source : Direction → Bool
is_source Source = true
is_source Destination = false

abbrev pub is_source_of : ℕ → Option Port → Bool
is_source_of channel None = false
is_source_of channel (Some port) = is_source port.direction && (port.channel == channel)

abbrev pub is_destination_of : ℕ → Option Port → Bool
is_destination_of channel None = false
is_destination_of channel (Some port) = not (is_source port.direction) && (port.channel == channel)
