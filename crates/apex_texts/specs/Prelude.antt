-- The words of std and of the crates below that several files of this crate cite.
pub use Rattle.std.specs.List.{list_all, slice_split, after_first}
pub use Rattle.apex_types.specs.Message.{message_of_hex, hex_text_of}
pub use Rattle.apex_types.specs.declared.call.Call.{Call}
pub use Rattle.apex_types.specs.declared.moment.Moment.{Moment}
pub use Rattle.apex_module.specs.Configuration.{Configuration, PartitionData, partition_name_of, partition_named, ports_of_partition, ports_of}
pub use Rattle.apex_module.specs.declared.fault.ConfigFault.{ConfigFault}
pub use Rattle.apex_ports.specs.Channels.{accepted_on, received_on, cleared_on, waiting_on, last_write_on, message_accepted, message_received}
pub use Rattle.apex_ports.specs.History.{History, entry_of, requests_of, entries_of, request_of}
pub use Rattle.apex_ports.specs.declared.history.Entry.{Entry}
pub use Rattle.apex_ports.specs.declared.history.Request.{Request}
