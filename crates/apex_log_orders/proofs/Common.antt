-- The words that several proofs of this crate cite.
pub use Rattle.apex_log_orders.specs.Prelude.{Call, SendQueuing, ReceiveQueuing, WriteSampling, ReadSampling, Configuration, port_of, ports_of, IsConfiguration, PartitionData, ports_of_partition, port_at, channel_of, is_queuing_port, is_queuing_channel, refresh_of_kind, Port, accepted_on, taken_after, taken_by, taken_on, last_validity_of, validity_read, validity_in, is_read, message_accepted, sample_written, received_on, message_received}
pub use Rattle.apex_log_orders.specs.Prelude.{message_sent, message_in, is_receive, waiting_on, writes_on, messages_of, as_received, message_written, sample_at, last_write_on, History, entries_of, mode_of, mode_set, mode_asked, restarts, is_restart, is_code_no_error, is_idle, is_normal, is_cold_start, is_created, creates, is_create, is_id, is_source_of, is_destination_of, sampling_only, is_source, queuing_only, NamedPort, queuing_named}
pub use Rattle.apex_log_orders.specs.Prelude.{sampling_named, HasNoClear, asks_clear, Entry, is_code_not_available}
pub use Rattle.std.proofs.Common.{◌≡◌, ◌⊎◌, inl, inr, ⊎_elim, ℕ, zero, suc, ◌+◌, ◌-◌, ◌==◌, ◌&&◌, ◌||◌, not, Bool, true, false, cond, if◌then◌else◌, List, [], ◌∷◌, ◌++◌, length, take, drop, fold, Option, Some, None, refl, sym, ap, ◌∙◌, subst, arith, append-nil, set, ◌<◌, ◌≤◌, append_assoc, length-append, ◌≢◌, length-set, replicate, Vec, Result, Ok, Err, OnOk, OnErr, length-drop, nat_lt, ltb, slice_index_or, get_or, rules}
pub use Rattle.std.proofs.lemmas.Bool.{cases_eq, cases_lt, cases_Bool, false≢true}
pub use Rattle.std.proofs.lemmas.Bool.Decides.{nat_tests}
pub use Rattle.std.proofs.lemmas.List.{take-append-le, take_all, length-replicate, length-map, drop-append-le, take_more, nil_from_length}
pub use Rattle.std.proofs.lemmas.Option.{slice_get_within, slice_get_past, slice_get-get_or}
pub use Rattle.std.specs.List.{slice_get, filter, filter_map, cons_option, list_any}
pub use Rattle.std.specs.Option.{unwrap_or, option_to_list, option_copied, MatchOption}
pub use Rattle.apex_types.specs.declared.direction.Direction.TheVariants.{Source, Destination}
pub use Rattle.apex_types.specs.declared.mode.Mode.TheVariants.{ColdStart, Idle, WarmStart, Normal}
pub use Rattle.apex_types.specs.declared.moment.Moment.{Moment}
pub use Rattle.apex_types.specs.declared.reply.Reply.TheVariants.{Received, Code, Read}
pub use Rattle.apex_types.specs.declared.sample.Sample.{Sample}
pub use Rattle.apex_ports.proofs.Appends.{accepted_on-append, received_on-append}
pub use Rattle.apex_ports.proofs.Conserved.{always_conserved, queuing_configured, sampling_configured}
pub use Rattle.apex_ports.proofs.Lookups.{at_index}
pub use Rattle.apex_ports.proofs.Stays.{LeavesChannel, accepted_stays, takes_nothing, and_false, none_or_none, or_not, and_true, LeavesPartition}
pub use Rattle.apex_ports.specs.ReplyTable.{reply_to, reply_of, row_of, depth_of, send_row, receive_row, size_of, oldest_row, oldest_reply, create_queuing_row, create_sampling_row, id_row, write_row, clear_row, status_row, set_mode_row, service_row, read_row, last_row, last_reply, depth_in}
pub use Rattle.apex_ports.specs.Seen.{Seen, seen, waiting_of, sample_of, sampling_port, validity_shown, queuing_port}
pub use Rattle.apex_ports.specs.Sound.{IsSound}
pub use Rattle.apex_ports.specs.declared.rows.Refusal.TheVariants.{EmptyMessage, MessageTooLong, NotSource, NotDestination, QueueFull, AlreadyCreated, SizeDiffers, DepthDiffers, DirectionDiffers, RefreshDiffers, UnknownDiscipline, InNormal, NotCreated, AlreadyNormal, WarmStartInColdStart}
pub use Rattle.apex_ports.specs.declared.rows.Row.{Row}
pub use Rattle.apex_judge.proofs.JudgedLogs.{same_reply}
pub use Rattle.apex_judge.specs.Shown.{waiting_shown, reply_shown}
pub use Rattle.apex_orders.proofs.Lists.{at_seam, stays_before, take_one_more, before_or_last, taken_from}
pub use Rattle.apex_log_orders.specs.ByChannel.{has_end, id_used, is_elsewhere, is_about, about, logs_about}
pub use Rattle.apex_log_orders.specs.DeadEnds.{HasKey, has_key, AreDead}
pub use Rattle.apex_log_orders.specs.LogOrders.{Logs, log_in, IsOrder, HasNoOrder, IsBeginning, entries_at, entry_at, IsAnswer}
pub use Rattle.apex_log_orders.specs.Stuck.{IsWithin, NeverNext, HaveNoClear, is_transfer, is_own, IsEnd, HasEnd, Writes, NoneWrites}
pub use Rattle.apex_log_orders.specs.Walking.{GoesOn, Ends, HasNoWay, IsMade, IsOwn, AreOwn, IsWalk, next_of, candidate, candidate_by, candidate_of, HaveNoWay, AreTried}
pub use Rattle.apex_log_orders.specs.declared.answer.CallPlace.{CallPlace}
pub use Rattle.apex_log_orders.specs.declared.choice.Choice.{Choice}
