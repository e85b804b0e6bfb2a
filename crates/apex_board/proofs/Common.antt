-- The words that several proofs of this crate cite.
pub use Rattle.apex_board.specs.Prelude.{Call, Configuration, accepted_on, taken_on, waiting_on, message_sent, message_accepted, message_received, clears, is_clear, as_received, as_cleared, messages_of, last_write_on, writes_on, History, entry_of, requests_of, EachAt, IsLawful, is_queuing, is_queue}
pub use Rattle.std.proofs.Common.{◌≡◌, ◌≢◌, ℕ, zero, suc, ◌<◌, ◌≤◌, ◌==◌, Bool, true, false, if◌then◌else◌, List, [], ◌∷◌, ◌++◌, length, map, drop, set, get_or, Option, Some, None, refl, sym, ap, ◌∙◌, subst, arith, length-set, length-append, ◌+◌, ◌-◌, Result, Ok, Err, below_more, take}
pub use Rattle.std.proofs.lemmas.Bool.Decides.{nat_tests}
pub use Rattle.std.specs.Result.{is_ok, OnErr}
pub use Rattle.std.specs.Vec.{vec_capacity, vec_len}
pub use Rattle.apex_ports.proofs.Lookups.{at_index, nothing_lent}
pub use Rattle.apex_ports.proofs.Stays.{accepted_stays, taken_stays, receives_no_clear, and_true, none_or_none, each_at_set, sample_stays, sample_changes, each_at_push, length_push}
pub use Rattle.apex_board.specs.BoardView.{BoardView}
pub use Rattle.apex_board.specs.Journals.{if_there, journal_at, has_journal, accepted_in, taken_in, AreJournals, IsFresh}
pub use Rattle.apex_board.specs.Room.{HasRoom, KeepsRoom, KeepsAllButOne, spare, room_beside, least_room, room_of, HasRoomAt}
pub use Rattle.apex_board.specs.declared.journal.Journal.{Journal}
