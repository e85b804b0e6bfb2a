-- The words that several proofs of this crate cite.
pub use Rattle.apex_config.specs.Prelude.{Direction, Data, Members, table, view, items_view, members_view, table_view, Configuration, PartitionData, ports_of_partition, port_at, port_of, is_queuing_port, is_queuing_channel, IsRefresh, IsDepth, IsConfiguration, channel_of, partition_name_of, KindsAgree, IsSize}
pub use Rattle.std.proofs.Common.{◌≡◌, ◌≢◌, ℕ, Bool, true, false, cond, List, [], ◌∷◌, Option, Some, None, option_map, Result, Ok, Err, IfErr, IfSome, refl, sym, ap, subst, suc, ◌+◌, ◌<◌, ◌++◌, length, take, get_or, ◌∙◌, arith, ◌-◌, ◌^◌, nat_le, min, ◌≤◌, eqb, ltb, length-append, zero, ℤ, pos, negsuc, ◌||◌, not, leb, map, is_ok, string_bytes, String, Global, ◌&&◌, Bor, rules, drop}
pub use Rattle.std.proofs.lemmas.Bool.{false≢true, or_left, or_right, and_parts, not-true, leb-true, eqb-true, ltb-false}
pub use Rattle.std.proofs.lemmas.List.{append_assoc, append-nil, take_more, length-take-le, length-map, get_or-map}
pub use Rattle.std.proofs.lemmas.Option.{same_Some, slice_get-map}
pub use Rattle.std.specs.Cmp.Lexicographic.{slice_cmp}
pub use Rattle.std.specs.List.{position, position_or_len, slice_get, list_any, sum_by, list_all, count_by}
pub use Rattle.std.specs.Map.{keys_of}
pub use Rattle.std.specs.Ordering.{nat_cmp}
pub use Rattle.std.specs.Str.{is_utf8, IsUtf8, bytes_eq}
pub use Rattle.apex_config.specs.Ends.{CountEnds, EndsData, CountMoreEnds}
pub use Rattle.apex_config.specs.Form.{wrong_partition_keys, is_known, wrong_document_keys}
unfoldable pub use Rattle.apex_config.specs.Form.{wrong_form, wrong_port, wrong_partition, wrong_channel}
pub use Rattle.apex_config.specs.Meaning.{RefusalData, refused_by, first_refusal, configuration_of, unless_refused, document_of, read_of_document, natural, channel_kind_of, port_kind_of, port_of_text, partition_of_text, channel_of_text}
unfoldable pub use Rattle.apex_config.specs.Meaning.{refusal_of, read_of}
pub use Rattle.apex_config.specs.Passes.{found_by, passes, end_count, without_end, at_ports, is_name, occurred_before, repeated, is_within, is_from_one_to, is_from_one_to_if_any, index_of_channel, channel_of_port, is_of_kind, is_end, may_have_several, is_alone, too_many_ports, bad_port_name, bad_partition_names, bad_channel_name, part_in, repeated_port_names, bad_refresh, bad_channel_numbers, unknown_channel, other_kind, one_of_several}
unfoldable pub use Rattle.apex_config.specs.Passes.{bad_names, repeated_names, bad_numbers, unknown_channels, other_kinds, wrong_ends, bad_counts}
pub use Rattle.apex_config.specs.Places.{Adds, at_each, whole, unless, unknown, at}
pub use Rattle.apex_config.specs.Text.{ConfigText, config_text_of, ChannelText, PortText, PartitionText, channel_text_of, partition_text_of, port_text_of}
pub use Rattle.apex_config.specs.Values.{list_of, keys_of_table, items_at}
pub use Rattle.apex_config.specs.declared.place.Place.{Place}
