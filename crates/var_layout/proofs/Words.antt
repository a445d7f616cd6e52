-- The words of this crate's proofs, from where they stand.
pub use Rattle.list_laws.proofs.Std.{Bool, IfSome, List, None, Option, Some, Width, [], and_from, ap, append-nil, arith, byte_len, cases_eq, cases_lt, cond, count_by, drop, drop_all, drop_more, enumerate_from, err_from_is_err_and, false, filter, filter-append, filter_more, find, find-append, flat_map, fold_push, get_or, get_or-enumerate_from, get_or_default, get_or_from_slice_get, inl, inr, is_none, leb-true, length, length-enumerate_from, length-filter, length-flat_map, length-map, list_all, list_any, map, map-append, max, mul-le, mul-le-mul_left, mul-one, mul_assoc, mul_comm, nat_le, nat_lt, nat_tests, not-false, not-true, not_from_false, not_from_true, option_map, option_or, or_parts, position, prefix_len, prefix_len_passes, refl, result_err, row_fits, slice_get, slice_get_read, slice_get_within, subst, suc, sum_by, sum_by-cons, sum_by_more, sum_by_push, sym, take, take-append-drop, take_all, take_more, to_be_bytes, true, zero, ℕ, ◌&&◌, ◌*◌, ◌++◌, ◌+◌, ◌-◌, ◌<◌, ◌==◌, ◌^◌, ◌||◌, ◌∙◌, ◌∷◌, ◌≡◌, ◌≤◌, ◌⊎◌, ltb-true, ltb-false}
pub use Rattle.std.proofs.Math.ListN.{get_or-map, set}
pub use Rattle.std.proofs.lemmas.List.{length-append}
pub use Rattle.std.specs.Prelude.{not}
pub use Rattle.list_laws.proofs.Common.{and_first, and_second, both_none, either, equal_suc, fails_at, holds_or_not, neither_some, no_both, none_of_test, or_first_false, passes_at, told_unless, untold}
pub use Rattle.list_laws.proofs.Types.{Align, Attr, Dim, Header, NcType, Var}
pub use Rattle.serial_spec.proofs.Common.{IsElement, IsIndex, Numbered, all_ones, attribute, bad_id, begin_of, begin_width, begins, count, count_long, count_width, counts_are_small, dimension, elements_apart, elements_past_header, end_fixed, end_of, end_of_fixed, end_of_var, first_check, fits_count, fits_field, fixed_of, fixed_variables, greatest, header_len, index_fixed, index_record, inner_lengths, is_large_var, is_record, is_sound, is_version, is_writable, is_writable_list, is_writable_var, keeps_bound, last_share, layout_fault, length_of, list_of, measure, meet, most_dims, most_dims_of_var, most_vars, name, past_bound, place, placed, product, record_later, record_limit, record_of, record_share, record_size, record_slabs, record_variables, records_in, recsize, round_up, row, row_below, share, sharing, sharing_from, sharing_with, size_fault, size_of, size_pos, slab, slab_below, slab_shared, tag, two_record_dims, variable, vsize, within_record}
unfoldable pub use Rattle.serial_spec.proofs.Common.{canon}
pub use Rattle.var_layout.specs.Begins.{HasPlace, far_fixed, far_record, first_record, fixed_end, lies_too_far}
pub use Rattle.var_layout.specs.Capped.{capped}
pub use Rattle.var_layout.specs.Measures.{first_end, record_end}
unfoldable pub use Rattle.var_layout.specs.Measures.{AreMeasures}
pub use Rattle.var_layout.specs.Reached.{records_for}
pub use Rattle.var_layout.specs.Unplaced.{has_writable_names, has_writable_parts, is_unplaced}
