-- The passes over the text of a configuration whose form is right. Each finds all places that it refuses, in its order.
use Rattle.std.specs.Prelude.{ℕ, ℤ, pos, negsuc, Bool, true, false, ◌&&◌, ◌||◌, ◌++◌, ◌==◌, nat_le, not, if◌then◌else◌, List, [], ◌∷◌, length, map, take, slice_get, sum_by, count_by, position, unwrap_or, is_ok, is_some, is_none, Option, Some, None}
use Rattle.apex_config.specs.Prelude.{list_any, bytes_eq, name_of, Direction, Source, Destination, ConfigFault, NotToml, Shape, BadName, NameTwice, OutOfRange, UnknownChannel, KindDiffers, Sources}
use Rattle.apex_config.specs.Prelude.{Destinations, Counts, OutOfMemory, PARTITION_LIMIT, PORT_LIMIT, CHANNEL_LIMIT, SIZE_LIMIT, DEPTH_LIMIT, REFRESH_LIMIT}
use Rattle.apex_config.specs.declared.key.Key.TheVariants as key
use Rattle.apex_config.specs.declared.place.Part.{Part}
use Rattle.apex_config.specs.declared.place.Part.TheVariants as part
use Rattle.apex_config.specs.declared.place.Place.{Place}
use Rattle.apex_config.specs.declared.place.Spot.{Spot}
use Rattle.apex_config.specs.declared.names.Entries.{Entries}
use Rattle.apex_config.specs.declared.names.Entries.TheVariants as entries
use Rattle.apex_module.specs.Equality.{same_direction}
use Rattle.apex_config.specs.Places.{whole, at, unless, at_each}
use Rattle.apex_config.specs.Text.{PortText, PartitionText, ChannelText, ConfigText}

-- what is found in each port, with the indexes of its partition and its own
abbrev pub at_ports : (ℕ → ℕ → PortText → List Place) → List PartitionText → List Place
at_ports find partitions = at_each (λ p partition. at_each (find p) 0 partition.ports) 0 partitions

-- a spot of a port
abbrev pub spot_of_port : Spot → ℕ → ℕ → Place
spot_of_port spot p i = record { part = part.Port p i; spot = spot }

-- ---- names are valid

abbrev pub is_name : List ℕ → Bool
is_name text = is_ok (name_of text)

abbrev pub bad_name : Part → List ℕ → List Place
bad_name part name = unless (is_name name) (at part key.Name)

abbrev pub bad_port_name : ℕ → ℕ → PortText → List Place
bad_port_name p i port = bad_name (part.Port p i) port.name

abbrev pub bad_partition_names : ℕ → PartitionText → List Place
bad_partition_names p partition = bad_name (part.Partition p) partition.name ++ at_each (bad_port_name p) 0 partition.ports

abbrev pub bad_channel_name : ℕ → ChannelText → List Place
bad_channel_name c channel = bad_name (part.Channel c) channel.name

unfoldable pub bad_names : ConfigText → List Place
bad_names config = at_each bad_partition_names 0 config.partitions ++ at_each bad_channel_name 0 config.channels

-- ---- no name occurs twice

-- the part for an entry of a list
abbrev pub part_in : Entries → ℕ → Part
part_in entries.Partitions i = part.Partition i
part_in (entries.PortsOf p) i = part.Port p i
part_in entries.Channels i = part.Channel i

-- the entry with this number, if its name occurred before
abbrev pub occurred_before : (ℕ → Part) → List (List ℕ) → ℕ → List ℕ → List Place
occurred_before part names i name = unless (not (list_any (λ other. bytes_eq other name) (take i names))) (at (part i) key.Name)

-- the entries that have the name of an earlier one
abbrev pub repeated : (ℕ → Part) → List (List ℕ) → List Place
repeated part names = at_each (occurred_before part names) 0 names

-- no two ports of one partition have the same name
abbrev pub repeated_port_names : ℕ → PartitionText → List Place
repeated_port_names p partition = repeated (part_in (entries.PortsOf p)) (map (λ port. port.name) partition.ports)

unfoldable pub repeated_names : ConfigText → List Place
repeated_names config =
    repeated (part_in entries.Partitions) (map (λ partition. partition.name) config.partitions)
    ++ at_each repeated_port_names 0 config.partitions
    ++ repeated (part_in entries.Channels) (map (λ channel. channel.name) config.channels)

-- ---- numbers are within their limits

abbrev pub is_within : ℕ → ℕ → Bool
is_within limit number = nat_le 1 number && nat_le number limit

abbrev pub is_from_one_to : ℕ → ℤ → Bool
is_from_one_to limit (pos number) = is_within limit number
is_from_one_to limit (negsuc number) = false

-- a number that may be missing
abbrev pub is_from_one_to_if_any : ℕ → Option ℤ → Bool
is_from_one_to_if_any limit None = true
is_from_one_to_if_any limit (Some number) = is_from_one_to limit number

abbrev pub bad_refresh : ℕ → ℕ → PortText → List Place
bad_refresh p i port = unless (is_from_one_to_if_any REFRESH_LIMIT port.refresh) (at (part.Port p i) key.Refresh)

abbrev pub bad_channel_numbers : ℕ → ChannelText → List Place
bad_channel_numbers c channel =
    unless (is_from_one_to SIZE_LIMIT channel.size) (at (part.Channel c) key.Size)
    ++ unless (is_from_one_to_if_any DEPTH_LIMIT channel.depth) (at (part.Channel c) key.Depth)

unfoldable pub bad_numbers : ConfigText → List Place
bad_numbers config = at_ports bad_refresh config.partitions ++ at_each bad_channel_numbers 0 config.channels

-- ---- each port names a channel

-- the number of the first channel with this name; if there is none, the number of channels, which no channel has
abbrev pub index_of_channel : List ChannelText → List ℕ → ℕ
index_of_channel channels name = unwrap_or (position (λ channel. bytes_eq channel.name name) channels) (length channels)

-- the channel that a port names
abbrev pub channel_of_port : List ChannelText → PortText → Option ChannelText
channel_of_port channels port = slice_get channels (index_of_channel channels port.channel)

abbrev pub unknown_channel : List ChannelText → ℕ → ℕ → PortText → List Place
unknown_channel channels p i port = unless (is_some (channel_of_port channels port)) (at (part.Port p i) key.Channel)

unfoldable pub unknown_channels : ConfigText → List Place
unknown_channels config = at_ports (unknown_channel config.channels) config.partitions

-- ---- a port is of its channel's kind

-- a sampling port has a refresh period, and a queuing channel a depth
abbrev pub is_of_kind : PortText → Option ChannelText → Bool
is_of_kind port None = true
is_of_kind port (Some channel) = if is_none port.refresh then is_some channel.depth else is_none channel.depth

abbrev pub other_kind : List ChannelText → ℕ → ℕ → PortText → List Place
other_kind channels p i port = unless (is_of_kind port (channel_of_port channels port)) (at (part.Port p i) key.Kind)

unfoldable pub other_kinds : ConfigText → List Place
other_kinds config = at_ports (other_kind config.channels) config.partitions

-- ---- the ends of channels

abbrev pub is_end : List ChannelText → Direction → ℕ → PortText → Bool
is_end channels direction c port = same_direction port.direction direction && (index_of_channel channels port.channel == c)

-- the number of ports of a direction that a channel has
abbrev pub end_count : List ChannelText → Direction → ℕ → List PartitionText → ℕ
end_count channels direction c partitions = sum_by (λ partition. count_by (is_end channels direction c) partition.ports) partitions

-- a sampling channel may have several destinations; each other channel has one end of each direction
abbrev pub may_have_several : Direction → Option ChannelText → Bool
may_have_several direction None = true
may_have_several Source (Some channel) = false
may_have_several Destination (Some channel) = is_none channel.depth

-- a channel has no end
abbrev pub without_end : Direction → ConfigText → ℕ → ChannelText → List Place
without_end direction config c channel = unless (nat_le 1 (end_count config.channels direction c config.partitions)) (whole (part.Channel c))

-- a port is one of several ends of a channel that may have only one
abbrev pub is_alone : Direction → ConfigText → PortText → Bool
is_alone direction config port =
    not (same_direction port.direction direction)
    || may_have_several direction (channel_of_port config.channels port)
    || nat_le (end_count config.channels direction (index_of_channel config.channels port.channel) config.partitions) 1

abbrev pub one_of_several : Direction → ConfigText → ℕ → ℕ → PortText → List Place
one_of_several direction config p i port = unless (is_alone direction config port) (whole (part.Port p i))

unfoldable pub wrong_ends : Direction → ConfigText → List Place
wrong_ends direction config = at_each (without_end direction config) 0 config.channels ++ at_ports (one_of_several direction config) config.partitions

-- ---- counts are within their limits

abbrev pub too_many_ports : ℕ → PartitionText → List Place
too_many_ports p partition = unless (nat_le (length partition.ports) PORT_LIMIT) (at (part.Partition p) key.Port)

unfoldable pub bad_counts : ConfigText → List Place
bad_counts config =
    unless (is_within PARTITION_LIMIT (length config.partitions)) (at part.Document key.Partition)
    ++ at_each too_many_ports 0 config.partitions
    ++ unless (nat_le (length config.channels) CHANNEL_LIMIT) (at part.Document key.Channel)

-- ---- the passes by their faults; those that run before the text is read find nothing in it

abbrev pub found_by : ConfigFault → ConfigText → List Place
found_by NotToml config = []
found_by Shape config = []
found_by BadName config = bad_names config
found_by NameTwice config = repeated_names config
found_by OutOfRange config = bad_numbers config
found_by UnknownChannel config = unknown_channels config
found_by KindDiffers config = other_kinds config
found_by Sources config = wrong_ends Source config
found_by Destinations config = wrong_ends Destination config
found_by Counts config = bad_counts config
found_by OutOfMemory config = []

-- the order of the passes over the text
abbrev pub passes : List ConfigFault
passes = BadName ∷ NameTwice ∷ OutOfRange ∷ UnknownChannel ∷ KindDiffers ∷ Sources ∷ Destinations ∷ Counts ∷ []
