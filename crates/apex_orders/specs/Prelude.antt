-- The words of std and of the crates below that several files of this crate cite.
pub use Rattle.std.specs.Option.{option_copied}
pub use Rattle.apex_types.specs.declared.call.Call.{Call}
pub use Rattle.apex_types.specs.declared.moment.Moment.{Moment}
pub use Rattle.apex_types.specs.declared.reply.Reply.{Reply}
pub use Rattle.apex_types.specs.declared.validity.Validity.{Validity}
pub use Rattle.apex_module.specs.Configuration.{Configuration, port_of, ports_of, IsConfiguration, refresh_of_kind, id_named, is_queuing_port}
pub use Rattle.apex_module.specs.declared.port.Port.{Port}
pub use Rattle.apex_ports.specs.Channels.{accepted_on, received_on, waiting_on, cleared_on, last_write_on, taken_on, taken_by, writes_on, last_validity_of, validity_read, message_accepted, message_received, sample_written, is_receive, is_clear, message_in, message_sent, message_written, sample_at, messages_of}
pub use Rattle.apex_ports.specs.Counts.{count_of}
pub use Rattle.apex_ports.specs.History.{History, entries_of, entry_of}
pub use Rattle.apex_ports.specs.Lawful.{IsLawful, IsLawfulEntry}
pub use Rattle.apex_ports.specs.Modes.{mode_of, mode_set, restarts, is_restart, is_idle, is_code_no_error, is_normal, is_cold_start}
pub use Rattle.apex_ports.specs.Ports.{IsIdentifier, is_created, creates, is_source, NamedPort, queuing_named, sampling_named, queuing_only, sampling_only, with_id, queuing_of_id, sampling_of_id}
pub use Rattle.apex_ports.specs.PortsView.{PortsView}
pub use Rattle.apex_ports.specs.ReplyTable.{row_of, reply_to, reply_of, size_of, depth_of, create_queuing_row, create_sampling_row, id_row, send_row, oldest_row, receive_row, last_row, read_row, service_row, clear_row, write_row, status_row, set_mode_row, queuing_status_reply, sampling_status_reply}
pub use Rattle.apex_ports.specs.Seen.{seen, sampling_port, validity_shown, Seen, waiting_of, sample_of, queuing_port, created_port}
pub use Rattle.apex_ports.specs.Sound.{IsSound}
pub use Rattle.apex_ports.specs.declared.history.Entry.{Entry}
pub use Rattle.apex_ports.specs.declared.rows.Row.{Row}
