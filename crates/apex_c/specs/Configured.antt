-- What the readers find of the configuration: its sizes, its ports and channels, names by number and numbers by name.
use Rattle.std.specs.Prelude.{ℕ, List, length, ok_or, option_map, Result, Ok, Err}
use Rattle.apex_types.specs.Direction.{number_of}
use Rattle.apex_types.specs.Name.{name_of}
use Rattle.apex_types.specs.declared.name.NameFault.{NameFault}
use Rattle.apex_types.specs.declared.name.TheConstants.{NAME_LIMIT}
use Rattle.apex_module.specs.Configuration.{channel_named, channel_of, depth_of_kind, id_named, is_queuing_channel, is_queuing_port, partition_name_of, partition_named, port_of, ports_of, refresh_of_kind}
use Rattle.apex_module.specs.declared.channel.Channel.{Channel}
use Rattle.apex_module.specs.declared.port.Port.{Port}
use Rattle.apex_c.specs.Found.{Found, for_buffer, in_partition, in_ports}
use Rattle.apex_c.specs.Held.{PortsHeld}
use Rattle.apex_c.specs.declared.answer.TheConstants.{NO_CHANNEL, NO_NAME, NO_PARTITION, NO_PORT, UNKNOWN_NAME}
use Rattle.apex_c.specs.declared.configured.ConfiguredChannel.{ConfiguredChannel}
use Rattle.apex_c.specs.declared.configured.ConfiguredPort.{ConfiguredPort}

-- ---- sizes

abbrev pub partitions_in : PortsHeld → Found ℕ
partitions_in held = in_ports held (λ ports. Ok (length ports.config.partitions))

abbrev pub channels_in : PortsHeld → Found ℕ
channels_in held = in_ports held (λ ports. Ok (length ports.config.channels))

-- how many ports a partition has
abbrev pub ports_in : PortsHeld → ℕ → Found ℕ
ports_in held p = in_partition held p (λ ports. Ok (length (ports_of ports.config p)))

-- ---- ports and channels

-- what is shown of a port with an identifier
abbrev pub port_in : {X : Type 0} → (Port → X) → PortsHeld → ℕ → ℕ → Found X
port_in show held p id = in_partition held p (λ ports. ok_or (option_map show (port_of ports.config p id)) NO_PORT)

-- what is shown of a channel
abbrev pub channel_in : {X : Type 0} → (Channel → X) → PortsHeld → ℕ → Found X
channel_in show held c = in_ports held (λ ports. ok_or (option_map show (channel_of ports.config c)) NO_CHANNEL)

-- a port and a channel as C is shown them
abbrev pub shown_port : Port → ConfiguredPort
shown_port port =
    record { refresh = refresh_of_kind port.kind; channel = port.channel; direction = number_of port.direction; is_queuing = is_queuing_port port.kind }

abbrev pub shown_channel : Channel → ConfiguredChannel
shown_channel channel =
    record { size = channel.size; depth = depth_of_kind channel.kind; is_queuing = is_queuing_channel channel.kind }

-- ---- names by number

abbrev pub partition_name : PortsHeld → ℕ → Found (List ℕ)
partition_name held p = in_ports held (λ ports. ok_or (partition_name_of ports.config p) NO_PARTITION)

abbrev pub port_name : PortsHeld → ℕ → ℕ → Found (List ℕ)
port_name held p id = port_in (λ port. port.name) held p id

abbrev pub channel_name : PortsHeld → ℕ → Found (List ℕ)
channel_name held c = channel_in (λ channel. channel.name) held c

-- those for a buffer of this many bytes

abbrev pub partition_name_in : ℕ → PortsHeld → ℕ → Found (List ℕ)
partition_name_in bytes held p = for_buffer NAME_LIMIT bytes (partition_name held p)

abbrev pub port_name_in : ℕ → PortsHeld → ℕ → ℕ → Found (List ℕ)
port_name_in bytes held p id = for_buffer NAME_LIMIT bytes (port_name held p id)

abbrev pub channel_name_in : ℕ → PortsHeld → ℕ → Found (List ℕ)
channel_name_in bytes held c = for_buffer NAME_LIMIT bytes (channel_name held c)

-- ---- numbers by name

-- found by the name that a text is
abbrev pub by_name : {X : Type 0} → Result (List ℕ) NameFault → (List ℕ → Found X) → Found X
by_name (Ok name) find = find name
by_name (Err fault) find = Err NO_NAME

abbrev pub partition_by : PortsHeld → List ℕ → Found ℕ
partition_by held text = by_name (name_of text)
    (λ name. in_ports held (λ ports. ok_or (partition_named ports.config name) UNKNOWN_NAME))

-- the identifier of a partition's port
abbrev pub id_by : PortsHeld → ℕ → List ℕ → Found ℕ
id_by held p text = by_name (name_of text)
    (λ name. in_partition held p (λ ports. ok_or (id_named ports.config p name) UNKNOWN_NAME))

abbrev pub channel_by : PortsHeld → List ℕ → Found ℕ
channel_by held text = by_name (name_of text)
    (λ name. in_ports held (λ ports. ok_or (channel_named ports.config name) UNKNOWN_NAME))
