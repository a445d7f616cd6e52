-- The words of this crate's proofs, from where they stand.
pub use Rattle.list_laws.proofs.Std.{Bool, List, None, Option, Some, [], add-one, ap, ap₂, arith, bytes_eq, cond, false, filter-append, flat_map-append, get_or, is_some, length, list_all, list_any, map-append, on_ok_weaker, option_map, range_with_len, refl, slice_get, slice_set, suc, sym, true, zero, ℕ, ◌&&◌, ◌++◌, ◌+◌, ◌<◌, ◌==◌, ◌||◌, ◌∙◌, ◌∷◌, ◌≡◌, nat_tests}
pub use Rattle.std.proofs.Common.{Bor, append-nil, flat_map, nat_lt}
pub use Rattle.std.specs.List.{filter}
pub use Rattle.list_laws.proofs.Common.{any_map, or_false, range_push}
pub use Rattle.list_laws.proofs.Types.{Attr, Bits, Dim, NcType, Numbers, Text, Values, Var, count_of}
unfoldable pub use Rattle.script_definitions.specs.DraftWords.{addition_by, definition_by, hint_by, hint_line_by, hint_name_by, hint_value_by, known_added, known_by, known_defined, line_by, ranks_by}
pub use Rattle.script_definitions.specs.RecordName.{IsRecordName}
pub use Rattle.script_spec.proofs.Common.{Known, Title, Word, dim_ids, dim_names, external_bytes, hint_line, is_added_record, is_name, is_unlimited, known_after, same_title, var_names, with_attr_at}
pub use Rattle.script_values.proofs.FoundLaws.{with_found}
pub use Rattle.script_words.proofs.NameLaws.{pushed}
pub use Rattle.serial_spec.proofs.Common.{ext, ext_of, value_at}
