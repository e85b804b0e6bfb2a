-- The words that several proofs of this crate cite.
pub use Rattle.std.proofs.Common.{◌≡◌, ℕ, false, ◌&&◌, ◌||◌, not, if◌then◌else◌, List, [], ◌∷◌, ◌++◌, length, drop, Option, Some, None, refl, sym, ap, ◌∙◌, append_assoc, append-nil, ◌≢◌, ◌<◌, ⊎_elim, ◌+◌, ◌-◌, ◌^◌, true, min, map, set, arith, ◌≤◌, ◌==◌, Bool, subst, length-append, length-set, filter, cond, fold, take, get_or, Bor, inl, inr, zero, suc, ◌*◌, rules, length-take, ◌⊎◌, nat_lt, slice_index_or}
pub use Rattle.std.proofs.Math.Seq.{drop-append_seam, take-append_seam, take-length}
pub use Rattle.std.proofs.lemmas.Bool.Decides.{nat_tests}
pub use Rattle.std.proofs.lemmas.List.{length-map, map-append, take-append-le, drop-take, length-drop, length-take-le, drop-append-le, take_more, with_items_is}
pub use Rattle.std.proofs.lemmas.List.Elements.{filter_map-append, filter-append}
pub use Rattle.std.proofs.lemmas.Option.{slice_get_within, slice_get-get_or, get_or_from_slice_get}
pub use Rattle.std.specs.List.{filter_map, slice_get, cons_option, list_any}
pub use Rattle.std.specs.Option.{unwrap_or, option_to_list, option_copied}
pub use Rattle.apex_types.specs.Mode.{mode_numbered}
pub use Rattle.apex_types.specs.declared.call.Call.{Call}
pub use Rattle.apex_types.specs.declared.call.Call.TheVariants.{SendQueuing, ReceiveQueuing, ClearQueuing, WriteSampling, SetMode, ReadSampling}
pub use Rattle.apex_types.specs.declared.mode.Mode.{Mode}
pub use Rattle.apex_types.specs.declared.mode.Mode.TheVariants.{ColdStart, Idle, WarmStart, Normal}
pub use Rattle.apex_types.specs.declared.moment.Moment.{Moment}
pub use Rattle.apex_types.specs.declared.reply.Reply.{Reply}
pub use Rattle.apex_types.specs.declared.reply.Reply.TheVariants.{Code, Received, Id, Read, NotMade}
pub use Rattle.apex_types.specs.declared.return_code.ReturnCode.TheVariants.{NoError, InvalidParam}
pub use Rattle.apex_types.specs.declared.sample.Sample.{Sample}
pub use Rattle.apex_types.specs.declared.taken.Taken.{Taken}
pub use Rattle.apex_types.specs.declared.validity.Validity.TheVariants.{Invalid}
pub use Rattle.circular_buffer.proofs.Places.{slice_get-last, slice_get-push, below_or_not, slice_get-drop, slice_get-append_left}
pub use Rattle.apex_module.specs.Configuration.{Configuration, port_of, IsConfiguration, channel_of, is_queuing_port, is_queuing_channel, depth_of_kind, ports_of, IsDepth, refresh_of_kind, id_named}
pub use Rattle.apex_module.specs.declared.port.Port.{Port}
pub use Rattle.apex_ports.specs.ChannelStates.{has_queue, waiting_in, ring_depth, message_size, accepted_in, received_in, cleared_in, sample_in}
pub use Rattle.apex_ports.specs.Channels.{accepted_on, received_on, taken_after, taken_on, taken_by, waiting_on, writes_on, message_accepted, message_received, sample_written, last_validity_of, validity_read, cleared_on, clears, as_cleared, sample_at, messages_of, message_in, message_sent, as_received, message_written, validity_in, is_read, is_receive, is_clear, last_write_on}
pub use Rattle.apex_ports.specs.Counts.{count_of}
pub use Rattle.apex_ports.specs.History.{History, entry_of, entries_of}
pub use Rattle.apex_ports.specs.Kept.{IsChannelKept, AreKept, AreCounted, IsPartitionKept, created_in, last_in, state_at, EachAt}
pub use Rattle.apex_ports.specs.Lawful.{IsLawful, IsLawfulEntry}
pub use Rattle.apex_ports.specs.MessageRing.{message_at, messages_at, with_message, AreShort, IsPlaced, IsRing, messages, Messages}
pub use Rattle.apex_ports.specs.Modes.{mode_of, mode_set, restarts, is_idle, is_code_no_error, mode_asked, is_restart, is_start, is_cold_start, is_no_error, is_normal}
pub use Rattle.apex_ports.specs.Noted.{IsSampleBy, entry_by, sample_by, call_by}
pub use Rattle.apex_ports.specs.Ports.{is_created, creates, is_source_of, is_destination_of, queuing_only, sampling_only, is_queuing, is_queue, is_source, IsIdentifier, is_create, is_id, NamedPort, queuing_named, sampling_named, with_id, queuing_of_id, sampling_of_id}
pub use Rattle.apex_ports.specs.PortsView.{PortsView}
pub use Rattle.apex_ports.specs.ReplyTable.{oldest_reply, depth_of, depth_in, send_row, oldest_row, receive_row, write_row, reply_of, reply_to, service_row, row_of, size_of, create_queuing_row, create_sampling_row, id_row, clear_row, last_row, read_row, status_row, set_mode_row, queuing_status_reply, sampling_status_reply, channel_size, size_in, size_of_port, last_reply}
pub use Rattle.apex_ports.specs.Rules.{IsConserved, AlwaysConserved}
pub use Rattle.apex_ports.specs.Saved.{EachOf, Reads, HasAsManyPorts, IsSameTable, AreWithin, IsRingFor, IsQueuePackable, IsSamplePackable, IsSlotPackable, IsPackable, HasRoomFor, AreCounts, IsSavedKept}
pub use Rattle.apex_ports.specs.Seen.{Seen, seen, waiting_of, queuing_port, sampling_port, sample_of, validity_shown}
pub use Rattle.apex_ports.specs.Sound.{IsSound}
pub use Rattle.apex_ports.specs.declared.channel.ChannelState.{ChannelState}
pub use Rattle.apex_ports.specs.declared.history.Entry.{Entry}
pub use Rattle.apex_ports.specs.declared.partition.PartitionState.{PartitionState}
pub use Rattle.apex_ports.specs.declared.partition.PortState.{PortState}
pub use Rattle.apex_ports.specs.declared.rows.Row.{Row}
pub use Rattle.apex_ports.specs.declared.rows.Row.TheVariants.{Refused, Sent}
