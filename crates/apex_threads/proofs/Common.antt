-- The words that several proofs of this crate cite.
pub use Rattle.std.proofs.Common.{◌≡◌, ◌≢◌, ℕ, suc, ◌<◌, ◌==◌, Bool, true, false, List, [], ◌∷◌, ◌++◌, length, map, Some, refl, sym, ap, ◌∙◌, subst, arith, length-append, zero, ◌+◌, ◌≤◌, take, set, get_or, replicate, append_assoc, get_or-set_same, get_or-set_other, slice_index_or, option_map, Option, None, Result, Ok, Err, Vec, vec_len, vec_capacity, IfOk, IfErr, below_more, OnErr, rules}
pub use Rattle.std.proofs.lemmas.Bool.Decides.{nat_tests}
pub use Rattle.std.proofs.lemmas.List.{map-append, get_or-replicate, length-take-le, append-nil, length-set}
pub use Rattle.std.proofs.lemmas.Option.{slice_get_within, slice_get-get_or, get_or_from_slice_get, slice_get_read}
pub use Rattle.std.specs.List.{slice_get, filter}
pub use Rattle.apex_types.specs.declared.call.Call.{Call}
pub use Rattle.apex_types.specs.declared.moment.Moment.{Moment}
pub use Rattle.apex_types.specs.declared.reply.Reply.{Reply}
pub use Rattle.apex_ports.specs.History.{History, entries_of, entry_of}
pub use Rattle.apex_threads.specs.OnChannels.{IsPublished, ArePublished, AddsChannel}
pub use Rattle.apex_threads.specs.Room.{AreReady, AddsReplies}
