-- The words of std and of the crates below that several files of this crate cite.
pub use Rattle.std.specs.List.{before_first, after_first, flat_map, list_any}
pub use Rattle.apex_types.specs.declared.call.Call.{Call}
pub use Rattle.apex_types.specs.declared.moment.Moment.{Moment}
pub use Rattle.apex_types.specs.declared.reply.Reply.{Reply}
pub use Rattle.apex_module.specs.Configuration.{Configuration, PartitionData, port_of, ports_of, IsConfiguration, port_at}
pub use Rattle.apex_module.specs.declared.port.Port.{Port}
pub use Rattle.apex_ports.specs.Channels.{accepted_on, received_on, cleared_on, waiting_on, is_read, validity_in, last_write_on}
pub use Rattle.apex_ports.specs.History.{History, entry_of, requests_of}
pub use Rattle.apex_ports.specs.Ports.{creates, is_created, is_source, is_destination_of}
pub use Rattle.apex_ports.specs.Sound.{IsSound}
pub use Rattle.apex_ports.specs.declared.history.Entry.{Entry}
pub use Rattle.apex_ports.specs.declared.history.Request.{Request}
pub use Rattle.apex_texts.specs.Lines.{FaultyLine}
unfoldable pub use Rattle.apex_texts.specs.Lines.{item_of_line, line_words}
pub use Rattle.apex_texts.specs.Replay.{entry_after, IsRefused}
pub use Rattle.apex_texts.specs.Report.{name_of_partition}
pub use Rattle.apex_texts.specs.Script.{script_of}
unfoldable pub use Rattle.apex_texts.specs.Script.{timed_call_at}
pub use Rattle.apex_texts.specs.Text.{is_line_feed}
pub use Rattle.apex_texts.specs.Trace.{trace_of}
unfoldable pub use Rattle.apex_texts.specs.Trace.{request_at}
pub use Rattle.apex_texts.specs.declared.line_fault.LineFault.{LineFault}
pub use Rattle.apex_judge.specs.Departures.{instead_of}
pub use Rattle.apex_judge.specs.OwnIds.{Own, none_known, entry_in_ours, own_after, replaced_in, restored}
unfoldable pub use Rattle.apex_logs.specs.Log.{entries_from}
pub use Rattle.apex_logs.specs.Polled.{wait_of, polled_entry}
pub use Rattle.apex_logs.specs.TimeOut.{as_waited, max_wait_of}
unfoldable pub use Rattle.apex_logs.specs.TimedCall.{logged_request_at}
pub use Rattle.apex_logs.specs.declared.log.LoggedEntry.{LoggedEntry}
pub use Rattle.apex_logs.specs.declared.time_out.MaxWait.{MaxWait}
