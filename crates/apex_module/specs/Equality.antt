-- Equality of configurations as a Boolean test.
use Rattle.std.specs.Prelude.{Bool, true, false, ◌&&◌, ◌==◌}
use Rattle.std.specs.Cmp.Lexicographic.{pointwise}
use Rattle.std.specs.Str.{bytes_eq}
use Rattle.apex_types.specs.declared.direction.Direction.{Direction}
use Rattle.apex_types.specs.declared.direction.Direction.TheVariants.{Source, Destination}
use Rattle.apex_module.specs.declared.port.Port.{Port}
use Rattle.apex_module.specs.declared.port.PortKind.{PortKind}
use Rattle.apex_module.specs.declared.port.PortKind.TheVariants as port_kind
use Rattle.apex_module.specs.declared.channel.Channel.{Channel}
use Rattle.apex_module.specs.declared.channel.ChannelKind.{ChannelKind}
use Rattle.apex_module.specs.declared.channel.ChannelKind.TheVariants as channel_kind
use Rattle.apex_module.specs.Configuration.{PartitionData, Configuration}

abbrev pub same_direction : Direction → Direction → Bool
same_direction Source Source = true
same_direction Source Destination = false
same_direction Destination Source = false
same_direction Destination Destination = true

abbrev pub equal_port_kinds : PortKind → PortKind → Bool
equal_port_kinds port_kind.Queuing port_kind.Queuing = true
equal_port_kinds port_kind.Queuing (port_kind.Sampling refresh) = false
equal_port_kinds (port_kind.Sampling refresh) port_kind.Queuing = false
equal_port_kinds (port_kind.Sampling refresh) (port_kind.Sampling other) = refresh == other

abbrev pub equal_channel_kinds : ChannelKind → ChannelKind → Bool
equal_channel_kinds (channel_kind.Queuing depth) (channel_kind.Queuing other) = depth == other
equal_channel_kinds (channel_kind.Queuing depth) channel_kind.Sampling = false
equal_channel_kinds channel_kind.Sampling (channel_kind.Queuing depth) = false
equal_channel_kinds channel_kind.Sampling channel_kind.Sampling = true

unfoldable pub equal_ports : Port → Port → Bool
equal_ports a b = bytes_eq a.name b.name && equal_port_kinds a.kind b.kind && same_direction a.direction b.direction && (a.channel == b.channel)

unfoldable pub equal_channels : Channel → Channel → Bool
equal_channels a b = bytes_eq a.name b.name && (a.size == b.size) && equal_channel_kinds a.kind b.kind

unfoldable pub equal_partitions : PartitionData → PartitionData → Bool
equal_partitions a b = bytes_eq a.name b.name && pointwise equal_ports a.ports b.ports

unfoldable pub equal_configurations : Configuration → Configuration → Bool
equal_configurations a b = pointwise equal_partitions a.partitions b.partitions && pointwise equal_channels a.channels b.channels
