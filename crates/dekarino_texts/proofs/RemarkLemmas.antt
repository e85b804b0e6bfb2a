-- The remarks on ports and channels, one after the other.
use Rattle.dekarino_texts.proofs.Common.{◌≡◌, ℕ, ◌+◌, ◌<◌, ◌≤◌, List, [], ◌++◌, length, drop, Option, Some, None, refl, slice_get, Configuration, PartitionData, IsConfiguration, port_of, ports_of, History, name_of_partition, drop_at, port_remark, port_remarks, partition_remarks, waiting_remark, channel_remarks}
use Rattle.std.proofs.Math.ListN.{drop_of_length-le}
use Rattle.std.proofs.lemmas.Option.{slice_get_within, slice_get-get_or}
use Rattle.apex_module.specs.declared.channel.Channel.{Channel}
use Rattle.apex_module.specs.declared.port.Port.{Port}
use Rattle.apex_ports.specs.Channels.{waiting_on}

-- ---- ports

pub linked_channel : (config : Configuration) (p id : ℕ) (port : Port) → IsConfiguration config → port_of config p id ≡ Some port → port.channel < length config.channels
linked_channel config p id port valid is =
    let link = valid.linked p id port is in
    slice_get_within config.channels port.channel link.0 link.1

pub port_cut : (config : Configuration) (history : History) (p : ℕ) (name : List ℕ) (ports : List Port) (index : ℕ) (port : Port) → slice_get ports index ≡ Some port
    → port_remarks config history p name (index + 1) (drop index ports) ≡ port_remark config history p name (index + 1) port ++ port_remarks config history p name (index + 1 + 1) (drop (index + 1) ports)
unfolding port_remarks
port_cut config history p name ports index port is = rw (drop_at ports index port is) refl

pub port_end : (config : Configuration) (history : History) (p : ℕ) (name : List ℕ) (ports : List Port) (index : ℕ) → length ports ≤ index → port_remarks config history p name (index + 1) (drop index ports) ≡ []
unfolding port_remarks
port_end config history p name ports index past = rw (drop_of_length-le ports past) refl

-- ---- partitions

partition_by : (config : Configuration) (history : History) (p : ℕ) (found : Option PartitionData) → slice_get config.partitions p ≡ found → p < length config.partitions
    → partition_remarks config history p (drop p config.partitions) ≡ port_remarks config history p (name_of_partition config p) 1 (ports_of config p) ++ partition_remarks config history (p + 1) (drop (p + 1) config.partitions)
unfolding partition_remarks
partition_by config history p (Some partition) is inside = rw (drop_at config.partitions p partition is, is) refl
partition_by config history p None is inside =
    let some = slice_get-get_or config.partitions p (record { name = []; ports = [] }) inside in
    absurd cc

pub partition_cut : (config : Configuration) (history : History) (p : ℕ) → p < length config.partitions
    → partition_remarks config history p (drop p config.partitions) ≡ port_remarks config history p (name_of_partition config p) 1 (ports_of config p) ++ partition_remarks config history (p + 1) (drop (p + 1) config.partitions)
partition_cut config history p inside = partition_by config history p (slice_get config.partitions p) refl inside

pub partition_end : (config : Configuration) (history : History) (p : ℕ) → length config.partitions ≤ p → partition_remarks config history p (drop p config.partitions) ≡ []
unfolding partition_remarks
partition_end config history p past = rw (drop_of_length-le config.partitions past) refl

-- ---- channels

pub channel_cut : (config : Configuration) (history : History) (c : ℕ) (channel : Channel) → slice_get config.channels c ≡ Some channel
    → channel_remarks config history c (drop c config.channels) ≡ waiting_remark channel.name (length (waiting_on config c history)) ++ channel_remarks config history (c + 1) (drop (c + 1) config.channels)
unfolding channel_remarks
channel_cut config history c channel is = rw (drop_at config.channels c channel is) refl

pub channel_end : (config : Configuration) (history : History) (c : ℕ) → length config.channels ≤ c → channel_remarks config history c (drop c config.channels) ≡ []
unfolding channel_remarks
channel_end config history c past = rw (drop_of_length-le config.channels past) refl
