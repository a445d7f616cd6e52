-- The words of this crate's proofs, from where they stand.
pub use Rattle.list_laws.proofs.Std.{AllByRecursion, Bool, List, None, Option, Some, Width, [], and_from, ap, append_assoc, arith, byte_len, cases_eq, cases_lt, cond, eqb_tells, count_by, div-add-mod', div_below, drop, enumerate_from, eqb-true, false, filter, filter-append, find, find-append, flat_map, fold, get_or, get_or-take, inl, inr, is_none, le-leb, leb-false, leb-true, length, length-append, length-filter, length-map, length-range_with_len, list_all, list_any, lt-ltb, ltb-false, ltb-true, map, min, mod_below, mul-le, nat_le, nat_lt, nat_tests, ne_eqb, not-false, not-true, or_cases, or_parts, position, range_with_len, refl, reverse_onto, row_fits, same_number_lists, slice_get, slice_get_within, subst, suc, sum_by, sum_by-cons, sum_by-filter_both, sym, take, take-append-drop, take-append_seam, to_be_bytes, true, true≢false, unwrap_or, w32, w64, zero, zip, ℕ, ◌%◌, ◌&&◌, ◌*◌, ◌++◌, ◌+◌, ◌-◌, ◌/◌, ◌<◌, ◌==◌, ◌^◌, ◌||◌, ◌↔◌, ◌∙◌, ◌∷◌, ◌≡◌, ◌≤◌, ◌⊎◌, common_steps}
pub use Rattle.std.proofs.Common.{append-nil, reverse}
pub use Rattle.std.specs.Prelude.{bytes_eq, not}
pub use Rattle.cdf_header.proofs.Pieces.{no_fault, right_number}
pub use Rattle.cdf_header.proofs.Walks.{drop_on}
pub use Rattle.cdf_header.specs.Decoded.{BeginsWith}
pub use Rattle.list_laws.proofs.Common.{told_else, some_or_none, position_below, holds_or_not, either, and_first, and_second, both_none, each_at, each_fails, each_later, each_map, each_passes, each_push, each_weaker, entry_below, entry_map, equal_above, equal_true, fails_each, get_left, neither_some, no_both, none_before_map, none_of_test, not_zero, passes_each, range_append, some_factor, untold}
pub use Rattle.list_laws.proofs.Types.{Attr, Dim, DiskCall, Extra, Header, HeaderErr, NcType, RedefErr, Var}
pub use Rattle.overlay_laws.proofs.Common.{HaveSame, In, filter_all, filter_none, filter_same, flat_in, in_either, in_flat, in_left, in_map, in_numbered, numbered_in, numbered_from, in_range, in_right, in_zip, map_in, numbered_at, range_high, range_low, zip_in}
pub use Rattle.redef_laws.specs.Applied.{IsApplied}
pub use Rattle.redef_laws.specs.RisingSlabs.{IsRisen, changes, first_slab, fixed_slabs, gaps, in_record, record_slabs, rising, slabs_of_record, stands_below}
pub use Rattle.redef_laws.specs.Shifted.{AreShifted, IsLower, IsMoved, IsShifted, new_end}
pub use Rattle.serial_spec.proofs.Common.{AreApart, Ask, AttributeOf, Attributes, Block, Count, DimLength, DimensionOf, Dimensions, Each, EndsWrong, Exactly, Field, IsElementBelow, IsIndex, IsRedefined, Joined, KeepsVars, ListOf, Magic, Many, Moves, NameLength, NameOf, Number, Numbered, One, Padded, Records, RecordsOf, Slab, Tag, VariableOf, Variables, added, after_field, all_ones, any_member, asked, at, attribute, bad_id, begin_at, begin_of_number, begin_width, begins_before, begins_by_number, big_endian, block, by_begin, count, count_width, counts_are_small, dim_id, dimension, end_holds, end_of_var, ends_later, extra_fault, extras_fault, extras_from, fault_only, field_fault, field_len, field_number, file_limit, filter_in, find_dim, first_of, first_record, fits_count, fits_field, fixed_begins, fixed_of, fixed_order, front_after, has_bad_kind, has_bad_shape, header_len, highest_first, in_filter, in_front, index_is_element, inner_lengths, inserted_by, is_bad_begin, is_far_begin, is_large_var, is_lawful_extra, is_one_too_many, is_record, is_record_id, is_redefinable, is_redefinable_var, is_sound, is_type, is_unknown, is_version, is_whole_extra, is_writable, is_writable_attr, is_writable_dim, is_writable_list, is_writable_var, keeps_bound, known_lengths, known_of, least, length_of, lengths, list_of, magic, many, measure, meet, most_dims, most_dims_of_var, most_vars, name, new_of, none_from, none_later, none_shared, number_of, old_of, padded, past_header, place, product, read_at, record_begins, record_later, record_limit, record_of, record_share, record_size, record_variables, records_in, recsize, redefined, redefined_fault, redefined_header, redefined_is, redefined_keeps, round_up, row, row_below, run_before, runs, share, sharing, size_of, size_pos, slab, slab_below, slab_fits, slab_shared, slabs, slabs_of, some_record, stands, stands_above, starts_with_zero, stores, tag, the_header, two_record_dims, variable, version_of, vsize, width_long, with_begins, with_extra, with_var_attr, within_record, without_record, wrong, wrong_at, zero_calls, ◌▹◌}
pub use Rattle.var_layout.proofs.CreatedFiles.{at_begin}
pub use Rattle.var_layout.proofs.ElementPlaces.{row_below_bytes}
pub use Rattle.var_layout.proofs.LaidApart.{count_two, fixed_then_record, no_sharing_from, record_then_fixed, shares_by}
pub use Rattle.var_layout.proofs.LaidPlaces.{past_none}
pub use Rattle.var_layout.proofs.LaidWritable.{small_count, small_field, vsize_fits}
pub use Rattle.var_layout.proofs.Soundness.{recsize_below, recsize_shared}
pub use Rattle.var_layout.proofs.WrittenLengths.{canon_len, list_len, variable_len}
