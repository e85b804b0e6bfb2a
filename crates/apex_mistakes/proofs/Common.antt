-- The words that several proofs of this crate cite.
pub use Rattle.apex_mistakes.specs.Prelude.{FaultyLine, before, is_blank, words_of, Expected, LineFault}
pub use Rattle.std.proofs.Common.{◌≡◌, ℕ, suc, ◌+◌, ◌-◌, ◌<◌, ◌≤◌, List, [], ◌∷◌, ◌++◌, take, Option, Some, None, Result, Ok, Err, refl, sym, ap, ◌∙◌, arith, append_assoc, Bool, true, false, append-nil, zero, not, eqb, length, drop, get_or, subst, inl, inr, length-append, zero-add, eq-or-lt_of_le, ◌≢◌}
pub use Rattle.std.proofs.Math.Seq.{take-nil, take-append-add, drop-nil, get_or-append_right}
pub use Rattle.std.specs.Prelude.{slice_get, option_map, option_to_list, if◌then◌else◌, ◌==◌, filter, position, unwrap_or}
pub use Rattle.std.specs.Str.Lines.{lines}
unfoldable pub use Rattle.apex_texts.specs.Lines.{item_of_line, items_from}
pub use Rattle.apex_mistakes.specs.FaultyLines.{faulty_line, places_of}
unfoldable pub use Rattle.apex_mistakes.specs.FaultyLines.{places_from}
pub use Rattle.apex_mistakes.specs.LinePlace.{place_in, from_first_word, behind_first_word, from_word_at, parameters_at, misfit, words_before}
pub use Rattle.apex_mistakes.specs.LogFaults.{faulty_log_line}
unfoldable pub use Rattle.apex_mistakes.specs.LogFaults.{log_places_from}
pub use Rattle.apex_mistakes.specs.LogPlace.{call_side, is_in_call, of_line_place, place_in_reply, log_place_in, before_arrow_of, begins_reply, fitting}
pub use Rattle.apex_mistakes.specs.declared.line_place.LinePlace.{LinePlace}
