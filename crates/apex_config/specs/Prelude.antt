-- The words of std and of the crates below that several files of this crate cite.
pub use Rattle.std.specs.List.{list_all, list_any}
pub use Rattle.std.specs.Str.{bytes_eq, is_utf8}
pub use Rattle.apex_types.specs.Name.{name_of}
pub use Rattle.apex_types.specs.declared.direction.Direction.{Direction}
pub use Rattle.apex_types.specs.declared.direction.Direction.TheVariants.{Source, Destination}
pub use Rattle.toml.specs.Data.{Data, Members, as_array, as_table, table, Items, no_items, item, no_members, member, get, as_str, as_integer}
pub use Rattle.toml.specs.View.{view, table_view, items_view, members_view}
pub use Rattle.apex_module.specs.Configuration.{PartitionData, Configuration, ports_of_partition, port_at, port_of, is_queuing_port, is_queuing_channel, IsRefresh, IsDepth, IsConfiguration, channel_of, partition_name_of, KindsAgree, IsSize}
pub use Rattle.apex_module.specs.declared.fault.ConfigFault.{ConfigFault}
pub use Rattle.apex_module.specs.declared.fault.ConfigFault.TheVariants.{NotToml, Shape, OutOfMemory, BadName, NameTwice, OutOfRange, UnknownChannel, KindDiffers, Sources, Destinations, Counts}
pub use Rattle.apex_module.specs.declared.limits.TheConstants.{SIZE_LIMIT, DEPTH_LIMIT, PARTITION_LIMIT, PORT_LIMIT, CHANNEL_LIMIT, REFRESH_LIMIT}
pub use Rattle.apex_module.specs.declared.port.Port.{Port}
