-- The words that several proofs of this crate cite.
pub use Rattle.apex_texts.specs.Prelude.{message_of_hex, hex_text_of, Configuration, PartitionData, ports_of_partition, ports_of, partition_named, partition_name_of, accepted_on, received_on, cleared_on, message_accepted, message_received, waiting_on, History, request_of, requests_of, entries_of}
pub use Rattle.std.proofs.Common.{◌≡◌, ℕ, List, None, Result, Ok, Err, refl, ◌+◌, ◌<◌, [], ◌++◌, length, take, Option, Some, sym, ap, ◌∙◌, append_assoc, codes, String, Global, string_bytes, ◌∷◌, subst, arith, suc, ◌*◌, ◌-◌, Bool, true, false, leb, cond, drop, get_or, ◌≤◌, nat_lt, length-append, ◌^◌, ◌==◌, add-one, zero, ◌&&◌, not, eqb, add-zero, rules, take-append-drop}
pub use Rattle.std.proofs.Math.Seq.{drop-cons, drop-length}
pub use Rattle.std.proofs.lemmas.List.{append-nil, length-take, length-drop, get_or-drop, drop-drop, take_all, take_rest}
pub use Rattle.std.proofs.lemmas.List.Sums.{sum_by_more, length-filter, count_by-le-length, fails_before_first, passes_at_first}
pub use Rattle.std.proofs.lemmas.Result.{IfOk-equal}
pub use Rattle.std.specs.List.{position_or_len, filter_map, list_all, slice_split, before_first, after_first}
pub use Rattle.std.specs.Prelude.{slice_get, sum_by, decimal, IfOk, position, option_map, MatchOption, ◌≢◌, filter, OnOk}
pub use Rattle.std.specs.Str.{IsUtf8, bytes_eq, IsAscii, IsNotAscii}
pub use Rattle.std.specs.Str.Lines.{lines, lines_of_parts, strip_carriage_return}
pub use Rattle.apex_texts.specs.Arguments.{value_of, name_in, message_in, ◌>>=◌, or_fault, word_at, moment_of}
unfoldable pub use Rattle.apex_texts.specs.Arguments.{call_of}
pub use Rattle.apex_texts.specs.Lines.{FaultyLine, item_of_words, before, is_ascii, items_of}
unfoldable pub use Rattle.apex_texts.specs.Lines.{line_words, item_of_line, items_from}
pub use Rattle.apex_texts.specs.Report.{line_of}
unfoldable pub use Rattle.apex_texts.specs.Report.{entry_lines, totals_of, report_of, partition_line, partition_lines, messages_text, channel_text, channel_lines, entry_line, queuing_status_text, reply_text, sampling_status_text}
pub use Rattle.apex_texts.specs.Text.{is_digit, digits_after, at_most, is_line_feed, is_blank, words_of}
pub use Rattle.apex_texts.specs.Trace.{HavePartitions, partition_of, trace_of, IsTraceRead}
unfoldable pub use Rattle.apex_texts.specs.Trace.{request_at}
