-- The words that several proofs of this crate cite.
pub use Rattle.apex_orders.specs.Prelude.{Call, Moment, Reply, Configuration, port_of, IsConfiguration, refresh_of_kind, ports_of, id_named, is_queuing_port, Port, accepted_on, received_on, taken_on, taken_by, writes_on, last_validity_of, validity_read, message_accepted, message_received, sample_written, is_receive, is_clear, message_in, message_sent, message_written, sample_at, cleared_on, waiting_on, last_write_on, messages_of, count_of}
pub use Rattle.apex_orders.specs.Prelude.{History, entries_of, entry_of, IsLawful, IsLawfulEntry, mode_of, mode_set, restarts, is_restart, is_idle, is_code_no_error, is_normal, is_cold_start, is_created, creates, is_source, NamedPort, queuing_named, sampling_named, IsIdentifier, queuing_only, sampling_only, with_id, queuing_of_id, sampling_of_id, PortsView, reply_of, row_of, size_of, depth_of, create_queuing_row, create_sampling_row}
pub use Rattle.apex_orders.specs.Prelude.{id_row, send_row, oldest_row, receive_row, last_row, read_row, service_row, reply_to, clear_row, write_row, status_row, set_mode_row, queuing_status_reply, sampling_status_reply, Seen, seen, waiting_of, sample_of, sampling_port, validity_shown, queuing_port, created_port, IsSound, Entry, Row}
pub use Rattle.std.proofs.Common.{◌≡◌, ◌⊎◌, ⊎_elim, ℕ, ◌-◌, ◌&&◌, ◌||◌, not, Bool, if◌then◌else◌, List, [], ◌∷◌, ◌++◌, length, drop, Option, Some, None, refl, sym, ap, ◌∙◌, subst, append_assoc, append-nil, filter, ◌+◌, ◌<◌, ◌≤◌, ◌%◌, length-append, get_or, arith, ◌≢◌, ◌↔◌, inl, inr, ◌^◌, true, false, take, zero, suc, map, ◌==◌, cond, Ok, Err, Result, IsErrAnd, Bor, rules, reverse, slice_index_or}
pub use Rattle.std.proofs.Math.Seq.{take-append_seam, drop-append_seam}
pub use Rattle.std.proofs.lemmas.Bool.{cases_eq, false≢true, cases_lt}
pub use Rattle.std.proofs.lemmas.Bool.Decides.{nat_tests}
pub use Rattle.std.proofs.lemmas.List.{get_or-set_same, get_or-set_other, length-set, take-append-le, take_all, length-map, length-take, drop-drop, map-append, get_or-replicate, length-replicate, reverse-append, take_more}
pub use Rattle.std.proofs.lemmas.Option.{slice_get-get_or, get_or_from_slice_get, slice_get_within, slice_get_past, unwrap_or-slice_get, slice_get_read}
pub use Rattle.std.specs.List.{slice_get}
pub use Rattle.std.specs.Result.{OnOk}
pub use Rattle.std.specs.Option.{unwrap_or, option_to_list, MatchOption, IfSome, option_copied, is_some}
pub use Rattle.apex_types.specs.declared.sample.Sample.{Sample}
pub use Rattle.apex_types.specs.declared.taken.Taken.{Taken}
pub use Rattle.apex_types.specs.declared.validity.Validity.TheVariants.{Invalid}
pub use Rattle.apex_ports.proofs.Appends.{mode_of-append, is_created-append, last_validity_of-append, accepted_on-append, received_on-append, taken_on-append, writes_on-append}
pub use Rattle.apex_ports.proofs.LawfulSteps.{lawful_push, sound-nil, sound-push}
pub use Rattle.apex_ports.proofs.Lookups.{is_identifier, at_index}
pub use Rattle.apex_ports.proofs.PartitionSteps.{leaves_others}
pub use Rattle.apex_ports.proofs.Stays.{LeavesPartition, LeavesChannel, accepted_stays, received_stays, taken_stays, or_not, none_or_none, IsElsewhere, leaves_channel, waiting_stays, sample_stays, and_false, sample_changes, slice_get-set_cases}
pub use Rattle.apex_orders.specs.Buckets.{IsLastOf, AreChained, AreFiledBelow, AreFiled, AreNone, bucket_of}
pub use Rattle.apex_orders.specs.Choices.{is_tried, HasNoChannel, IsNextCall, IsOnChannel, IsQuietOutside, IsSafeToTry, IsNextUse}
pub use Rattle.apex_orders.specs.Clock.{IsNextDue, ClockedNeverFalls, IsDue, IsClocked}
pub use Rattle.apex_orders.specs.Commuting.{names, Commutes, id_in, port_in, is_on, is_change, changes, IsApart, AlwaysCommutes, channel_in, channel_named}
pub use Rattle.apex_orders.specs.Enough.{HasNext, IsApartFromRest, IsEnough, IsRefusedEarly, HasSameByTried, is_early, IsSameWay, AreAmongTried, TryingEnoughIsEnough, EnoughGoesFirst}
pub use Rattle.apex_orders.specs.Hashes.{mix, calls_below, shown_below, all_shown_below, shown_hash, messages_hash, channels_below, hash_of, bytes_below, messages_below}
pub use Rattle.apex_orders.specs.Known.{IsAfter, AreLevels, ArePoints, IsSameLevel, IsTrialOf, IsReadyAfter, KnowsFrom}
pub use Rattle.apex_orders.specs.LastUses.{IsLastUseBelow, IsQuiet, IsQuietFrom, AreLastUses, AreOfScripts}
pub use Rattle.apex_orders.specs.Lists.{Has}
pub use Rattle.apex_orders.specs.Orders.{Scripts, script_of, IsWay, next_entries, calls_of, replies_of, IsBeginning, IsOrder, continued, history_of, AreShort, times, entries_for, order_at, order_of}
pub use Rattle.apex_orders.specs.Outcomes.{CanOccurWith, AreRepliesWith, AreEndsWith, EndsAtOne, HasMorePointsWith, IsUndecidedWith, CanBeAnsweredWith, IsAnsweredByWith, IsGivenByWith, IsAnswerTo, AreAnswersTo}
pub use Rattle.apex_orders.specs.Points.{IsSamePoint, IsSameCalls, HasSameCounts, calls_made, made_below}
pub use Rattle.apex_orders.specs.Searching.{AreAllAnswered, AreAnswersBy, AreDue, IsEnoughWith, IsSearched, IsGivenByAnOrder, IsOpen, HasMadeAll, NamesAll, AreEndsOf, HasMoreOrders, HaveOrders, IsGivenUp, Keeps, Knows, Includes, AreOrders, AreApart, AreClocked, IsUnansweredAt, IsTried, HasTried, IsFound, AreFound, HasEnded, IsAnsweredAfter, IsGivenAfter, IsSearchedInVain, HasTriedEnough, HasTriedFrom, HasLevel, IsLater, IsSearch, answer_by}
pub use Rattle.apex_orders.specs.States.{IsSameChannel, IsSameState, IsSamePorts, last_shown, IsSamePartition}
pub use Rattle.apex_orders.specs.Steps.{Makes, MakesNothing, possible}
pub use Rattle.apex_orders.specs.Workers.{AreAllApart, HasNothingLeft, AreContinued, AreHashed, AreGiven, HasContinued, HasMade, HasPoint, HasTriedCall, IsAnswered, IsContinued, IsFoundBy, IsLaterWorker, IsRange, IsReady, IsShared, IsWorker, IsUnderWay, IsWorkerOf, AreWorkers, KnowsPoint, order_given, order_found, orders_known, AreUnderTrial, CanAllTry, CanRun, HasRun, HasRunOn, IsUnderTrial, HasTriedAll, HasLeft, HaveInOrder, HaveTriedAll, reach, HasGivenAll, HasLooked, IsLevelUnderTrial}
pub use Rattle.apex_orders.specs.declared.asked.Asked.{Asked}
pub use Rattle.apex_orders.specs.declared.last_uses.LastUse.{LastUse}
pub use Rattle.apex_orders.specs.declared.last_uses.LastUses.{LastUses}
pub use Rattle.apex_orders.specs.declared.orders.LastCall.{LastCall}
pub use Rattle.apex_orders.specs.declared.replies.PossibleReply.{PossibleReply}
pub use Rattle.apex_orders.specs.declared.found_point.FoundPoint.{FoundPoint}
pub use Rattle.apex_orders.specs.declared.worker.Worker.{Worker}
