-- A configuration as plain data: the partitions with their ports, the channels, and what holds for each accepted
-- configuration.
use Rattle.std.specs.Prelude.{ℕ, Bool, true, false, ◌≡◌, ◌≤◌, ◌-◌, ◌+◌, ◌==◌, if◌then◌else◌, List, [], length, slice_get, position, Option, Some, None, option_map}
use Rattle.std.specs.Str.{bytes_eq}
use Rattle.apex_types.specs.Name.{IsName}
use Rattle.apex_types.specs.declared.direction.Direction.TheVariants.{Source, Destination}
use Rattle.apex_module.specs.declared.port.Port.{Port}
use Rattle.apex_module.specs.declared.port.PortKind.{PortKind}
use Rattle.apex_module.specs.declared.port.PortKind.TheVariants as port_kind
use Rattle.apex_module.specs.declared.channel.Channel.{Channel}
use Rattle.apex_module.specs.declared.channel.ChannelKind.{ChannelKind}
use Rattle.apex_module.specs.declared.channel.ChannelKind.TheVariants as channel_kind
use Rattle.apex_module.specs.declared.limits.TheConstants.{PARTITION_LIMIT, PORT_LIMIT, CHANNEL_LIMIT, SIZE_LIMIT, DEPTH_LIMIT, REFRESH_LIMIT}

-- a partition: its name, and its ports in the order of their identifiers
pub record PartitionData : Type 0 where
  pub name : List ℕ
  pub ports : List Port

-- a configuration: partitions and channels are numbered from 0
pub record Configuration : Type 0 where
  pub partitions : List PartitionData
  pub channels : List Channel

-- ---- look-ups

-- the ports of a partition; none if there is no such partition
abbrev pub ports_of_partition : Option PartitionData → List Port
ports_of_partition None = []
ports_of_partition (Some partition) = partition.ports

abbrev pub ports_of : Configuration → ℕ → List Port
ports_of config p = ports_of_partition (slice_get config.partitions p)

-- the port with an identifier, which is the port's index counted from 1
abbrev pub port_at : List Port → ℕ → Option Port
port_at ports id = if id == 0 then None else slice_get ports (id - 1)

abbrev pub port_of : Configuration → ℕ → ℕ → Option Port
port_of config p id = port_at (ports_of config p) id

-- the channel with this number
abbrev pub channel_of : Configuration → ℕ → Option Channel
channel_of config c = slice_get config.channels c

-- the number of the channel with this name
abbrev pub channel_named : Configuration → List ℕ → Option ℕ
channel_named config name = position (λ channel. bytes_eq channel.name name) config.channels

-- the name of a partition
abbrev pub partition_name_of : Configuration → ℕ → Option (List ℕ)
partition_name_of config p = option_map (λ partition. partition.name) (slice_get config.partitions p)

-- the partition with this name
abbrev pub partition_named : Configuration → List ℕ → Option ℕ
partition_named config name = position (λ partition. bytes_eq partition.name name) config.partitions

-- the identifier of the partition's port with this name
abbrev pub id_named : Configuration → ℕ → List ℕ → Option ℕ
id_named config p name = option_map (λ place. place + 1) (position (λ port. bytes_eq port.name name) (ports_of config p))

-- ---- kinds

abbrev pub is_queuing_port : PortKind → Bool
is_queuing_port port_kind.Queuing = true
is_queuing_port (port_kind.Sampling refresh) = false

abbrev pub is_queuing_channel : ChannelKind → Bool
is_queuing_channel (channel_kind.Queuing depth) = true
is_queuing_channel channel_kind.Sampling = false

-- the number of messages that can wait on a channel; 0 for a sampling channel
abbrev pub depth_of_kind : ChannelKind → ℕ
depth_of_kind (channel_kind.Queuing depth) = depth
depth_of_kind channel_kind.Sampling = 0

-- the refresh period of a port, in nanoseconds; 0 for a queuing port
abbrev pub refresh_of_kind : PortKind → ℕ
refresh_of_kind port_kind.Queuing = 0
refresh_of_kind (port_kind.Sampling refresh) = refresh

-- a queuing port belongs to a queuing channel, a sampling port to a sampling channel
abbrev pub KindsAgree : Port → Channel → Type 0
KindsAgree port channel = is_queuing_port port.kind ≡ is_queuing_channel channel.kind

-- ---- the limits of numbers

abbrev pub IsRefresh : PortKind → Type 0
IsRefresh port_kind.Queuing = Unit {0}
IsRefresh (port_kind.Sampling refresh) = (1 ≤ refresh) × (refresh ≤ REFRESH_LIMIT)

abbrev pub IsDepth : ChannelKind → Type 0
IsDepth (channel_kind.Queuing depth) = (1 ≤ depth) × (depth ≤ DEPTH_LIMIT)
IsDepth channel_kind.Sampling = Unit {0}

abbrev pub IsSize : ℕ → Type 0
IsSize size = (1 ≤ size) × (size ≤ SIZE_LIMIT)

-- ---- what holds for each accepted configuration

pub record IsConfiguration (config : Configuration) : Type 0 where
  -- counts
  pub some_partition : 1 ≤ length config.partitions
  pub few_partitions : length config.partitions ≤ PARTITION_LIMIT
  pub few_ports : (p : ℕ) → length (ports_of config p) ≤ PORT_LIMIT
  pub few_channels : length config.channels ≤ CHANNEL_LIMIT
  -- numbers
  pub refresh : (p id : ℕ) (port : Port) → port_of config p id ≡ Some port → IsRefresh port.kind
  pub size : (c : ℕ) (channel : Channel) → channel_of config c ≡ Some channel → IsSize channel.size
  pub depth : (c : ℕ) (channel : Channel) → channel_of config c ≡ Some channel → IsDepth channel.kind
  -- names
  pub partition_name : (p : ℕ) (name : List ℕ) → partition_name_of config p ≡ Some name → IsName name
  pub port_name : (p id : ℕ) (port : Port) → port_of config p id ≡ Some port → IsName port.name
  pub channel_name : (c : ℕ) (channel : Channel) → channel_of config c ≡ Some channel → IsName channel.name
  pub distinct_partitions : (p q : ℕ) (name : List ℕ) → partition_name_of config p ≡ Some name → partition_name_of config q ≡ Some name → p ≡ q
  pub distinct_ports : (p id jd : ℕ) (port other : Port) → port_of config p id ≡ Some port → port_of config p jd ≡ Some other → port.name ≡ other.name → id ≡ jd
  pub distinct_channels : (c d : ℕ) (channel other : Channel) → channel_of config c ≡ Some channel → channel_of config d ≡ Some other → channel.name ≡ other.name → c ≡ d
  -- each port belongs to a channel of its kind
  pub linked : (p id : ℕ) (port : Port) → port_of config p id ≡ Some port → (channel : Channel) × (channel_of config port.channel ≡ Some channel) × KindsAgree port channel
  -- a channel has one source, a queuing channel one destination, a sampling channel one or more
  pub one_source : (p id : ℕ) (port : Port) (q jd : ℕ) (other : Port) → port_of config p id ≡ Some port → port_of config q jd ≡ Some other
      → port.direction ≡ Source → other.direction ≡ Source → port.channel ≡ other.channel → (p ≡ q) × (id ≡ jd)
  pub has_source : (c : ℕ) (channel : Channel) → channel_of config c ≡ Some channel
      → (p : ℕ) × (id : ℕ) × (port : Port) × (port_of config p id ≡ Some port) × (port.direction ≡ Source) × (port.channel ≡ c)
  pub one_destination : (p id : ℕ) (port : Port) (q jd : ℕ) (other : Port) → port_of config p id ≡ Some port → port_of config q jd ≡ Some other
      → port.direction ≡ Destination → other.direction ≡ Destination → port.channel ≡ other.channel → is_queuing_port port.kind ≡ true → (p ≡ q) × (id ≡ jd)
  pub has_destination : (c : ℕ) (channel : Channel) → channel_of config c ≡ Some channel
      → (p : ℕ) × (id : ℕ) × (port : Port) × (port_of config p id ≡ Some port) × (port.direction ≡ Destination) × (port.channel ≡ c)
