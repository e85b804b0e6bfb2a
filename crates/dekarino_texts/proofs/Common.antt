-- The words that several proofs of this crate cite.
pub use Rattle.dekarino_texts.specs.Prelude.{Configuration, PartitionData, IsConfiguration, port_of, ports_of, port_at, History, entry_of, requests_of, Entry, FaultyLine, name_of_partition, trace_of, instead_of, Own, none_known, entry_in_ours, own_after, replaced_in, restored, polled_entry, max_wait_of}
pub use Rattle.std.proofs.Common.{◌≡◌, ℕ, ◌+◌, ◌≤◌, List, [], ◌∷◌, ◌++◌, Option, Some, None, Result, Ok, Err, refl, sym, ◌∙◌, subst, append-nil, append_assoc, arith, length, length-append, ap, true, false, IfSome, inl, inr, drop, ◌<◌, zero, suc, is_some, add-one, OnOk, rules, is_ok, map}
pub use Rattle.std.proofs.lemmas.List.{map-append, length-replicate}
pub use Rattle.std.specs.Option.{option_copied}
pub use Rattle.std.specs.Prelude.{slice_get}
pub use Rattle.std.specs.Str.Lines.{lines}
pub use Rattle.apex_texts.proofs.ReportLemmas.{grows, complete, drop_at}
unfoldable pub use Rattle.apex_texts.specs.Lines.{item_of_line, line_words, items_from}
unfoldable pub use Rattle.apex_texts.specs.Trace.{request_at}
pub use Rattle.dekarino_texts.specs.Departures.{LoggedDeparture, IsJudged, known_in, log_to_judge, counts_with, departures_handed, no_counts, AreFirstJudged, IsJudgedThrough, IsStoppedAt, stopped_at, place_with}
unfoldable pub use Rattle.dekarino_texts.specs.Departures.{all_to_judge, handed_after, judged_counts_after}
pub use Rattle.dekarino_texts.specs.Explanation.{ExplainedLine, line_without_call, line_faulty, answered_after, explained_line, entry_in, log_in, line_with, explanation_of}
unfoldable pub use Rattle.dekarino_texts.specs.Explanation.{explained}
pub use Rattle.dekarino_texts.specs.Handed.{IsHanded}
pub use Rattle.dekarino_texts.specs.Notes.{AreNoted, ArePortsNoted, last_moment}
pub use Rattle.dekarino_texts.specs.PortTable.{place_if, port_row, RowData, row_data, table_rows}
unfoldable pub use Rattle.dekarino_texts.specs.PortTable.{places_in, partners_of, port_rows, partition_rows}
pub use Rattle.dekarino_texts.specs.Remarks.{LineEntry, history_of, remarks_of, earlier, moment_remarks, not_made, idle_remarks, port_remark, waiting_remark, start}
unfoldable pub use Rattle.dekarino_texts.specs.Remarks.{partition_remarks, channel_remarks, port_remarks}
pub use Rattle.dekarino_texts.specs.ScriptLines.{are_words, has_call, call_numbers, IsLineOf, AreLinesOf}
unfoldable pub use Rattle.dekarino_texts.specs.ScriptLines.{numbers_from}
pub use Rattle.dekarino_texts.specs.declared.departures.DepartureCounts.{DepartureCounts}
pub use Rattle.dekarino_texts.specs.declared.notes.Notes.{Notes}
