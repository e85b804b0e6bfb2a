-- The words that several proofs of this crate cite.
pub use Rattle.apex_groups.specs.Prelude.{Configuration, port_of, PartitionData, port_at, ports_of_partition, IsConfiguration, Port, History, entries_of, IsClosed, entries_inside, Has, Scripts, history_of, IsWay, next_entries, script_of, calls_of, IsBeginning, IsOrder, entries_for, continued, AreEndsWith, HasMorePointsWith, CanBeAnsweredWith, CanOccurWith}
pub use Rattle.apex_groups.specs.Prelude.{IsAnsweredByWith, IsGivenByWith, IsUndecidedWith, AreRepliesWith, Asked, PossibleReply, Logs, log_in, HasNoOrder, entries_at, IsAnswer}
pub use Rattle.std.proofs.Common.{◌≡◌, ℕ, ◌<◌, Bool, true, false, List, [], length, drop, Some, refl, sym, ap, ◌∙◌, slice_index_or, Option, None, subst, ◌≢◌, ⊎_elim, zero, suc, ◌+◌, ◌-◌, ◌≤◌, ◌&&◌, ◌||◌, not, ltb, cond, ◌∷◌, set, arith, Err, ◌==◌, if◌then◌else◌, ◌++◌, map, append_assoc, append-nil, ◌⊎◌, inl, inr, take, length-append}
pub use Rattle.std.proofs.lemmas.Bool.{cases_eq, cases_lt, false≢true}
pub use Rattle.std.proofs.lemmas.Bool.Decides.{nat_tests}
pub use Rattle.std.proofs.lemmas.List.{length-set, take_all, take_more}
pub use Rattle.std.proofs.lemmas.Option.{get_or_from_slice_get, slice_get_past, slice_get_within, slice_get-map, slice_get-get_or}
pub use Rattle.std.specs.List.{filter, slice_get}
pub use Rattle.std.specs.Option.{unwrap_or, option_map, option_to_list}
pub use Rattle.std.specs.Prelude.{replicate, IfOk, Result, Ok, IfSome, IfNone}
pub use Rattle.apex_ports.proofs.Interference.{filter_map-inside, leaves_channel_inside, taken-inside, independent}
pub use Rattle.apex_ports.specs.declared.history.Entry.{Entry}
pub use Rattle.apex_orders.proofs.ClockLemmas.{unclocked}
pub use Rattle.apex_orders.proofs.Walks.{entries_of-append, IsGood, IsDone, IsNext, answered, calls_count, continued-append, next_cases, one_longer, own_entry}
pub use Rattle.apex_groups.specs.Counts.{HasSameTotals, HasSuchTotals, KeepTotals, ShowAllCounts, ShowsCounts, totals_below}
pub use Rattle.apex_groups.specs.Groups.{AreExchanged, IsPart, list_of, AreApart, HasItsChannels, group_of, HasNone, in_group}
pub use Rattle.apex_groups.specs.LogParts.{AreWhole, IsOfGroups}
pub use Rattle.apex_groups.specs.Merging.{AreAdded, AreCounted, AreEndsAdded, AreNextPast, EndsAlike, IsBefore, IsClockedWay, IsEndOfPart, IsFirst, IsFirstUntil, IsFoundBefore, IsMerged, IsPast, IsWholeOf, moment_of, next_moment, next_of}
pub use Rattle.apex_groups.specs.ScriptParts.{AreRepliesBelow, ShowCountsBelow, IsFoundOf, IsUndecidedApart}
pub use Rattle.apex_groups.specs.Answers.{AreAnswersOf, AreKnown, AreOfPart, AreOrdersOf, ArePicked, ArePut, Found, IsMergedAnswer, IsOrderOf, IsPut}
