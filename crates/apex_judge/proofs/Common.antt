-- The words that several proofs of this crate cite.
pub use Rattle.apex_judge.specs.Prelude.{Call, SendQueuing, ReceiveQueuing, ClearQueuing, WriteSampling, ReadSampling, CreateSampling, CreateQueuing, SetMode, Moment, Reply, Code, Received, NotMade, Id, Read, QueuingStatus, SamplingStatus, Invalid, Valid, Configuration, port_of, ports_of, id_named, is_queuing_port, Port, message_sent, message_accepted, message_in, message_received, message_written, sample_at, sample_written, waiting_on}
pub use Rattle.apex_judge.specs.Prelude.{last_write_on, last_validity_of, validity_read, accepted_on, taken_on, messages_of, as_received, clears, entry_of, History, EachAt, is_code_no_error, is_restart, mode_of, mode_set, restarts, is_idle, is_source_of, is_destination_of, IsIdentifier, with_id, queuing_only, sampling_only, queuing_of_id, sampling_of_id, is_created, creates, is_id, is_source, is_create, row_of, reply_of, reply_to}
pub use Rattle.apex_judge.specs.Prelude.{oldest_row, receive_row, oldest_reply, Seen, seen, waiting_of, sample_of, queuing_port, IsSound, Entry}
pub use Rattle.std.proofs.Common.{◌≡◌, ◌≢◌, ℕ, ◌==◌, ◌≤◌, ◌^◌, ◌-◌, ◌+◌, Bool, true, false, ◌&&◌, ◌||◌, if◌then◌else◌, List, [], ◌∷◌, ◌++◌, length, set, position, Option, Some, None, refl, sym, ap, ◌∙◌, arith, append-nil, zero, suc, take, drop, append_assoc, is_some, option_map, subst, ◌<◌, length-append, length-set, get_or, not, cond, take_all, BTreeMap, Vec, ⊎_elim, add-one, ◌↔◌, IsTrue, IfOk, rules}
pub use Rattle.std.proofs.lemmas.Bool.{cases_Bool, and_parts, and_from, eqb-true}
pub use Rattle.std.proofs.lemmas.Bool.Decides.{nat_tests}
pub use Rattle.std.proofs.lemmas.List.{length-drop, get_or-set_same, get_or-set_other, map-append, drop-drop}
pub use Rattle.std.proofs.lemmas.Option.{slice_get-get_or}
pub use Rattle.std.proofs.lemmas.Slice.Eq.{bytes_eq-Decides}
pub use Rattle.std.specs.List.{slice_get, count_by, position_from}
pub use Rattle.std.specs.Option.{option_to_list, unwrap_or, option_copied}
pub use Rattle.std.specs.Str.{bytes_eq}
pub use Rattle.apex_ports.proofs.Lookups.{is_identifier, at_index}
pub use Rattle.apex_ports.proofs.Stays.{none_or_none, and_false, each_at_set, LeavesPartition, leaves_partition, or_not, sample_stays, sample_changes, and_true, accepted_stays, waiting_stays, each_at_push, length_push}
pub use Rattle.apex_judge.specs.Departures.{instead_of, departure_at, departures_after, departures_of, expected_of}
pub use Rattle.apex_judge.specs.Evidence.{sample_shown, reads_from, with_evidence, mode_shown, created_shown, last_shown}
pub use Rattle.apex_judge.specs.JudgeView.{JudgeView}
pub use Rattle.apex_judge.specs.Kept.{IsChannelShown, ChannelsStay, IsPartitionShown, doubted_of, AreShown, state_at, created_in, last_in, doubted_in, Shows}
pub use Rattle.apex_judge.specs.Picture.{Picture, waiting_at, reply_in, opening, seen_in}
pub use Rattle.apex_judge.specs.Replies.{agrees, is_not_made, is_code, is_received, is_read_as, is_queuing_status, is_sampling_status}
pub use Rattle.apex_judge.specs.Shown.{reply_shown, waiting_shown, shown}
pub use Rattle.apex_judge.specs.Steps.{sample_after, with_effects, is_among, is_believed, when_departing, judged, picture_of, picture_after, named_reply, receives_later, receives_waiting}
pub use Rattle.apex_judge.specs.Subjects.{with_doubt, id_in, port_about, is_of_mode, subject_at, subject_of, is_doubted, is_at, is_mode, is_port}
pub use Rattle.apex_judge.specs.Tally.{times, IsCounted}
pub use Rattle.apex_judge.specs.Waiting.{is_code_not_available, empties, behind, left_after, waiting_after}
pub use Rattle.apex_judge.specs.declared.channel.ChannelState.{ChannelState}
pub use Rattle.apex_judge.specs.declared.departure.Expected.{Expected}
pub use Rattle.apex_judge.specs.declared.partition.PartitionState.{PartitionState}
pub use Rattle.apex_judge.specs.declared.subject.Subject.{Subject}
