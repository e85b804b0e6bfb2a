-- The words of std and of the crates below that several files of this crate cite.
pub use Rattle.std.specs.Option.{option_to_list, option_copied}
pub use Rattle.std.specs.Prelude.{List, length}
pub use Rattle.std.specs.Str.{bytes_eq}
pub use Rattle.apex_types.specs.declared.call.Call.{Call}
pub use Rattle.apex_types.specs.declared.call.Call.TheVariants.{ReceiveQueuing, SendQueuing, ClearQueuing, WriteSampling, ReadSampling, CreateSampling, CreateQueuing, SetMode}
pub use Rattle.apex_types.specs.declared.mode.Mode.{Mode}
pub use Rattle.apex_types.specs.declared.moment.Moment.{Moment}
pub use Rattle.apex_types.specs.declared.reply.Reply.{Reply}
pub use Rattle.apex_types.specs.declared.reply.Reply.TheVariants.{NotMade, Code, Id, Received, Read, QueuingStatus, SamplingStatus}
pub use Rattle.apex_types.specs.declared.return_code.ReturnCode.{ReturnCode}
pub use Rattle.apex_types.specs.declared.return_code.ReturnCode.TheVariants.{NoError, NoAction, InvalidParam, InvalidConfig, InvalidMode, NotAvailable}
pub use Rattle.apex_types.specs.declared.sample.Sample.{Sample}
pub use Rattle.apex_types.specs.declared.validity.Validity.{Validity}
pub use Rattle.apex_types.specs.declared.validity.Validity.TheVariants.{Invalid, Valid}
pub use Rattle.apex_module.specs.Configuration.{Configuration, IsConfiguration, port_of, ports_of, id_named, is_queuing_port}
pub use Rattle.apex_module.specs.declared.port.Port.{Port}
pub use Rattle.apex_ports.specs.Channels.{sample_written, validity_read, message_accepted, message_received, is_receive, clears, message_in, validity_in, message_sent, message_written, sample_at, waiting_on, last_write_on, last_validity_of, accepted_on, taken_on, messages_of, as_received}
pub use Rattle.apex_ports.specs.History.{History, entry_of}
pub use Rattle.apex_ports.specs.Kept.{EachAt}
pub use Rattle.apex_ports.specs.Modes.{is_code_no_error, is_restart, mode_asked, mode_set, restarts, is_start, mode_of, is_idle}
pub use Rattle.apex_ports.specs.Ports.{is_destination_of, IsIdentifier, is_id, creates, is_create, NamedPort, queuing_of_id, queuing_named, sampling_of_id, sampling_named, is_source_of, with_id, queuing_only, sampling_only, is_created, is_source}
pub use Rattle.apex_ports.specs.ReplyTable.{reply_to, row_of, reply_of, queuing_status_reply, sampling_status_reply, oldest_row, receive_row, oldest_reply}
pub use Rattle.apex_ports.specs.Seen.{seen, Seen, queuing_port, sampling_port, waiting_of, sample_of}
pub use Rattle.apex_ports.specs.Sound.{IsSound}
pub use Rattle.apex_ports.specs.declared.history.Entry.{Entry}
pub use Rattle.apex_ports.specs.declared.rows.Row.{Row}
