-- The words that several proofs of this crate cite.
pub use Rattle.dekarino_drawings.specs.Prelude.{Configuration, port_of, History, request_of, requests_of}
pub use Rattle.std.proofs.Common.{◌≡◌, ℕ, ◌+◌, ◌≤◌, List, [], ◌∷◌, ◌++◌, length, drop, take, Some, refl, ap, ◌∙◌, ◌≢◌, suc, ◌-◌, ◌^◌, ◌<◌, min, max, Bool, true, false, if◌then◌else◌, length-append, length-set, set, arith, Option, None, is_some, sym, subst, append_assoc, append-nil, rules, string_bytes}
pub use Rattle.std.proofs.lemmas.List.{length-map, take_more, length-drop, length-take-le, take_all, map-id}
pub use Rattle.std.proofs.lemmas.Option.{slice_get_within, get_or_from_slice_get, slice_get-get_or}
pub use Rattle.std.specs.List.{cons_option, filter_map, flat_map}
pub use Rattle.std.specs.Prelude.{slice_get, option_map}
pub use Rattle.apex_texts.proofs.ReportLemmas.{drop_at, grows, complete}
pub use Rattle.dekarino_drawings.specs.Arrows.{origin_of, arrow_from, index_if, sends_on, writes_on, last_write, on_channel_of, arrows_of, waiting_of}
unfoldable pub use Rattle.dekarino_drawings.specs.Arrows.{arrows_after, indexes_from, waiting_from}
pub use Rattle.dekarino_drawings.specs.Following.{IsFollowed, AreFollowed, waits_in, channel_changed}
pub use Rattle.dekarino_drawings.specs.declared.channel_calls.ChannelCalls.{ChannelCalls}
