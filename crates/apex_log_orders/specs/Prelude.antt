-- The words of std and of the crates below that several files of this crate cite.
pub use Rattle.std.specs.Option.{option_to_list, option_copied}
pub use Rattle.std.specs.Prelude.{List}
pub use Rattle.apex_types.specs.declared.call.Call.{Call}
pub use Rattle.apex_types.specs.declared.call.Call.TheVariants.{SamplingStatus, SendQueuing, ReceiveQueuing, QueuingStatus, ReadSampling, WriteSampling}
pub use Rattle.apex_types.specs.declared.direction.Direction.{Direction}
pub use Rattle.apex_module.specs.Configuration.{Configuration, ports_of, port_of, is_queuing_port, IsConfiguration, PartitionData, ports_of_partition, port_at, channel_of, is_queuing_channel, refresh_of_kind}
pub use Rattle.apex_module.specs.declared.port.Port.{Port}
pub use Rattle.apex_ports.specs.Channels.{waiting_on, message_written, accepted_on, received_on, message_accepted, message_received, taken_after, taken_by, taken_on, last_validity_of, validity_read, validity_in, is_read, sample_written, message_sent, message_in, is_receive, writes_on, messages_of, as_received, sample_at, last_write_on}
pub use Rattle.apex_ports.specs.History.{History, entries_of}
pub use Rattle.apex_ports.specs.Lawful.{IsLawful, IsLawfulEntry}
pub use Rattle.apex_ports.specs.Modes.{is_code_no_error, mode_of, mode_set, mode_asked, restarts, is_restart, is_idle, is_normal, is_cold_start}
pub use Rattle.apex_ports.specs.Ports.{is_source_of, is_destination_of, is_created, creates, is_create, is_id, sampling_only, is_source, queuing_only, NamedPort, queuing_named, sampling_named}
pub use Rattle.apex_ports.specs.WithoutClears.{HasNoClear, asks_clear}
pub use Rattle.apex_ports.specs.declared.history.Entry.{Entry}
pub use Rattle.apex_judge.specs.Waiting.{is_code_not_available}
