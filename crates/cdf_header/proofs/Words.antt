-- The words of this crate's proofs, from where they stand.
pub use Rattle.list_laws.proofs.Std.{All-contains, All-from_recursion, All-get_or, All-head, All-tail, AllByRecursion, AllPairs, Bool, Contains, Contains-get_or, Contains-permutation, Err, IfOk, IsTrue, List, None, Ok, Option, Some, [], ap, append-nil, append_assoc, arith, be_bytes_4, be_bytes_8, byte_len, cases_lt, common_steps, cond, drop, drop-append_seam, drop-drop, drop_more, eqb-true, err_from_is_err_and, false, flat_map-append, from_be_bytes, from_be_bytes-to_be_bytes_4, from_be_bytes-to_be_bytes_8, get_or, get_or-drop, get_or-take, get_or_default, get_or_past, if◌then◌else◌, inl, inr, is_none, le-leb, le-ltb, leb-false, leb-true, length, length-append, length-drop, length-replicate, length-take, length-take-le, list_all, list_any, lt-leb, ltb-false, ltb-true, map, min, mul-le-mul_left, nat_le, nat_lt, nat_tests, nil_from_length, not-false, option_map, on_ok_weaker, option_or, or_parts, position, position_from, position_from-zero, refl, slice_get, slice_get_past, subst, suc, sym, take, take-add, take-append-add, take-append-drop, take-append_seam, take-take, take_all, take_more, to_be_bytes, true, w32, w64, zero, ℕ, ◌*◌, ◌++◌, ◌+◌, ◌-◌, ◌/◌, ◌<◌, ◌==◌, ◌^◌, ◌∙◌, ◌∷◌, ◌≡◌, ◌≤◌, ◌⊎◌}
pub use Rattle.std.proofs.lemmas.List.Elements.{Contains-append_left, Contains-push}
pub use Rattle.std.specs.List.{All, flat_map}
pub use Rattle.std.specs.Prelude.{not, replicate, ◌&&◌, ◌||◌}
pub use Rattle.cdf_header.specs.Clipped.{SpellsClipped, clip, clipped, clipped_header}
pub use Rattle.cdf_header.specs.Decoded.{BeginsWith}
pub use Rattle.cdf_header.specs.Reading.{Fails, Reading, field_at, kind_of, ◌>>=◌}
unfoldable pub use Rattle.cdf_header.specs.Reading.{absent_at, attr_at, attrs_at, block_at, count_at, dim_at, dims_at, each_at, header_at, id_at, ids_at, kind_at, name_at, unread_at, var_at, vars_at}
pub use Rattle.cdf_header.specs.Spans.{AreApart, AreSpans, EndsBefore, EndsBeforeNext, HasAll, NoneShares, fixed_meet, partner, records_meet, share, shared_pair, span_of, spans_of}
pub use Rattle.cdf_header.specs.Writable.{IsWritableList, IsWritableVar, list_head}
pub use Rattle.cdf_header.specs.declared.spans.Span.{Span}
pub use Rattle.cdf_header.specs.declared.stop.Stop.{Stop}
pub use Rattle.list_laws.proofs.Common.{all_three, and_first, and_second, equal_itself, none_of_test, not_zero, passes_each, then_append, told_else, told_unless}
pub use Rattle.list_laws.proofs.Types.{Attr, Dim, Header, HeaderErr, NcType, Var}
pub use Rattle.serial_spec.proofs.Common.{AnyBytes, Ask, AttrCount, AttrType, AttributeOf, Attributes, Begin, Block, Count, DimCount, DimId, DimLength, DimensionOf, Dimensions, Each, EndsWrong, Entries, Field, HasFault, HasFieldFault, Ids, Joined, ListOf, Magic, Many, NameLength, NameOf, Number, One, Padded, Records, RecordsOf, Run, Spells, Tag, TypeOf, VarType, VariableOf, Variables, Vsize, after_field, all_ones, asked, attribute, bad_id, bad_type, begin_width, big_endian, block, both, canon_spelled, count, count_width, counts_are_small, dimension, ends_on, fault_if, fault_only, field_fault, field_len, field_number, file_limit, first_check, first_field, fits_count, fits_field, header_len, inner_lengths, is_above, is_negative, is_record_id, is_sound, is_too_large, is_type, is_version, is_writable, is_writable_attr, is_writable_dim, is_writable_list, is_writable_var, keeps_bound, known_version, last_type, len_pos, length_of, list_of, magic, many, measure, most_dims, most_dims_of_var, most_of, most_vars, name, number_of, other_fields, padded, past_bound, product, record_later, record_limit, record_share, recsize, right_fits, round_up, run_on, run_whole, sharing, sharing_from, sharing_with, size_of, size_pos, slab, slab_below, spelling_long, spells_once, stands, tag, tag_of, takes, the_header, two_record_dims, type_size, variable, version_of, vsize, width_long, without_record, wrong, wrong_at}
unfoldable pub use Rattle.serial_spec.proofs.Common.{canon}
pub use Rattle.var_layout.proofs.Soundness.{Keeps, keeps, measured, recsize_below, shares_small}
