-- The words that several proofs of this crate cite.
pub use Rattle.apex_logs.specs.Prelude.{is_blank, words_of, is_line_feed, is_digit, digits_after, number_up_to}
pub use Rattle.std.proofs.Common.{◌≡◌, ℕ, zero, suc, ◌<◌, false, not, eqb, List, [], ◌∷◌, length, take, drop, get_or, Option, Some, None, refl, sym, ap, ◌∙◌, arith, add-zero, codes, ◌+◌, ◌≤◌, Bool, true, eqb-true, ◌++◌, Result, Ok, Err, IfOk, subst, append_assoc, append-nil, drop_of_length-le, ◌-◌, ◌*◌, ◌/◌, ◌%◌, ◌^◌, cond, length-append, leb, decimal, rules, drop-drop}
pub use Rattle.std.specs.Io.KnownBytes.{Keeps, Consumes, IsAtEnd, prepend_known}
pub use Rattle.std.specs.Prelude.{position, option_map, filter, All, OnOk}
pub use Rattle.std.specs.Str.Lines.{lines, lines_of_parts, strip_carriage_return}
pub use Rattle.apex_texts.proofs.TextLemmas.{from_word, word_some, words_at, words_last, position_found, position_missed, words_none}
pub use Rattle.apex_logs.specs.LineSource.{HasNoLineFeed, IsNextLine, IsPart, text_left}
pub use Rattle.apex_logs.specs.Log.{before}
unfoldable pub use Rattle.apex_logs.specs.Log.{entries_from}
pub use Rattle.apex_logs.specs.LogLine.{begin_with_after, ends_calls, is_closed}
unfoldable pub use Rattle.apex_logs.specs.LogLine.{entry_of_line}
