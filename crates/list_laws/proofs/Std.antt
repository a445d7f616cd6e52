-- The words of std that proofs use, from where they stand.
pub use Rattle.std.proofs.Common.{All, Bool, Equal, Err, FitsSigned, Greater, IsAscii, IsUtf8, Less, List, MatchOption, None, Ok, Option, Result, SFits, Some, T, [], add-one, ap, append_assoc, ap₂, arith, below_more, bytes_eq, codes, cond, decimal, drop, drop-cons, eq-or-lt_of_le, eq-zero-or-pos, eqb, eqb→eq, false, get_or, inl, inr, le_of_eq, leb, length, length-append, lit<, lt_of_not-le, ltb, map, max, min, neg_ℤ, negsuc, not, of_calls, of_z, pos, refl, replicate, rules, set, slice_set, subst, suc, sum, sym, take, to_z, true, true≢false, unsigned_abs, vec_capacity, vec_len, zero, zero-add, ℕ, ℤ, ⊎_elim, ◌%◌, ◌&&◌, ◌*ℤ◌, ◌*◌, ◌++◌, ◌+ℤ◌, ◌+◌, ◌-◌, ◌/◌, ◌<◌, ◌^◌, ◌||◌, ◌↔◌, ◌∙◌, ◌∷◌, ◌≡◌, ◌≢◌, ◌≤ℤ◌, ◌≤◌, ◌⊎◌}
pub use Rattle.std.proofs.Crossing.{crosses}
pub use Rattle.std.proofs.Math.Bool.{and-false}
pub use Rattle.std.proofs.Math.Facts.{sfits_lit}
pub use Rattle.std.proofs.Math.ListN.{drop_of_length-le}
pub use Rattle.std.proofs.Math.Nat.{add-mod-mod, add-mod_right, add-mul, div-le_self, div-mul-le_self, le_of_mul-le-mul_right, lt_of_mul-lt-mul_right, mod-eq-sub-div-mul, mod-eq_of_lt, mod-mod, mul-div_cancel, mul-le-mul_left, mul-le-mul_right, mul-mod_left, mul-one, mul-pos, mul_assoc, mul_comm, zero-mod}
pub use Rattle.std.proofs.Math.Path.{transport}
pub use Rattle.std.proofs.Math.Seq.{drop-append-add, drop-append_seam, map-set_same, take-add, take-append-add, take-append_seam, take-length, take-suc}
pub use Rattle.std.proofs.lemmas.Bool.{agree_below_at, and_cases, and_from, and_left, and_parts, and_right, both_ways, cases_Bool, cases_eq, cases_lt, cases_order, cond-false, cond-true, cond_both, eq-eqb, eqb-false, eqb-true, false_from_ne_true, le-leb, le-ltb, leb-false, leb-true, lt-leb, lt-ltb, ltb-false, ltb-true, ne_eqb, not-false, not-true, not_from_false, not_from_true, or_cases, or_from, or_left, or_parts, or_right}
pub use Rattle.std.proofs.lemmas.Bool.Decides.{Decides-eqb, Decides-like, eqb_tells, leb_tells, nat_tests, same_from_decides}
pub use Rattle.std.proofs.lemmas.Cmp.{nat_list_cmp_total, ranked}
pub use Rattle.std.proofs.lemmas.Fmt.{decimal_by_steps_wide, decimal_nonempty, length-decimal-le_wide}
pub use Rattle.std.proofs.lemmas.Fn.{always_returns_same, filter_same}
pub use Rattle.std.proofs.lemmas.Grind.{common_steps, div_ceil_times, flat_map-append, fold-append, get_or_default_zero, reverse_onto, same_number_lists, take-set_at}
pub use Rattle.std.proofs.lemmas.Int.{int_wrap-add_right, ints, of_z-to_z, to_z-of_z, wrapping_add-bits, wrapping_mul-bits}
pub use Rattle.std.proofs.lemmas.Iterator.{YieldsList-from_slice, YieldsList-from_zip}
pub use Rattle.std.proofs.lemmas.Iterator.Adapters.{position_from-zero}
pub use Rattle.std.proofs.lemmas.Iterator.Consumers.{YieldsList-end, YieldsList-from_enumerate, YieldsList-turn}
pub use Rattle.std.proofs.lemmas.List.{append-nil, append_cancel_left, drop-append-le, drop-drop, drop-replicate, drop-set, drop-take, drop_all, drop_at, drop_more, ext_get_or, flat_map_more, get_or-append_right, get_or-drop, get_or-map, get_or-replicate, get_or-set_other, get_or-set_same, get_or-take, get_or_append_left, get_or_at, get_or_default, get_or_past, length-drop, length-map, length-replicate, length-set, length-take, length-take-le, length_push, map-append, map-id, map-set, map_more, map_push, nil_from_length, places, reverse-append, set-set, set_at, take-append-drop, take-append-le, take-map, take-replicate, take-set-le, take-take, take_all, take_at, take_min, take_more, take_more_set, take_rest, with_items_is}
pub use Rattle.std.proofs.lemmas.List.Concat.{length-flat_map}
pub use Rattle.std.proofs.lemmas.List.Edits.{length-swap, swapped_from_swap}
pub use Rattle.std.proofs.lemmas.List.Elements.{All-cons, All-contains, All-filter, All-from_get_or, All-from_recursion, All-get_or, All-head, All-map, All-nil, All-push, All-tail, All-weaker, Contains-get_or, filter-append, filter_agree, filter_map-append, filter_more, recursion_from_All}
pub use Rattle.std.proofs.lemmas.List.Filters.{sum_by-filter_both}
pub use Rattle.std.proofs.lemmas.List.Folds.{find-append, find_at, flat_map-map, fold-map, list_all-append, list_all-map, list_all_at, list_any-append, list_any_more}
pub use Rattle.std.proofs.lemmas.List.FromFn.{fill_by_all, get_or-enumerate_from, get_or-map-range_with_len, get_or-range_with_len, length-enumerate_from, length-map-range_with_len, length-range_with_len, map-range_with_len_more}
pub use Rattle.std.proofs.lemmas.List.Quantifiers.{position-Some}
pub use Rattle.std.proofs.lemmas.List.Sorted.{Contains-permutation, IsNonDecreasingBy-from_sort, IsNonDecreasingBy-from_sort_by_key, IsPartitionPoint-from_clause, IsPermutation-keeps, IsPermutation-put_mid, IsPermutation-sym, IsPermutation-trans, answers_always, length_permutation, ranks_by, sorted_far}
pub use Rattle.std.proofs.lemmas.List.Splits.{length-slice_split, slice_split_at, slice_split_first, slice_split_none}
pub use Rattle.std.proofs.lemmas.List.Sums.{AllPass-from_list_all, count_by-le-length, fails_before_first, fold_more, fold_push, length-filter, position_or_len_is, prefix_len-le-length, prefix_len_passes, sum-map, sum_by-append, sum_by-cons, sum_by_more, sum_by_more_le, sum_by_push}
pub use Rattle.std.proofs.lemmas.Map.Iter.{rest_all, rest_more}
pub use Rattle.std.proofs.lemmas.Map.Keys.{any_passes_from_place, ge_from_not_lt, sorted_head, sorted_tail}
pub use Rattle.std.proofs.lemmas.Map.Text.{btree_map_updates_str, is_eq-slice_cmp}
pub use Rattle.std.proofs.lemmas.Map.Views.{All-found, any-filter_same}
pub use Rattle.std.proofs.lemmas.Nat.{be_bytes_4, be_bytes_8, div-add-mod', div-mul-add, div_below, from_be_bytes-to_be_bytes_2, from_be_bytes-to_be_bytes_4, from_be_bytes-to_be_bytes_8, le-div, mod-mul-add, mod_below, mul-add-lt, mul-le, row_fits, same_from_place}
pub use Rattle.std.proofs.lemmas.Option.{IfSome_then, cond_some, get_or_from_slice_get, same_Some, slice_get-get_or, slice_get-map, slice_get_cases, slice_get_past, slice_get_read, slice_get_within}
pub use Rattle.std.proofs.lemmas.Result.{IfErr-weaker, IfOk-weaker, err_from_is_err_and, on_err_weaker, on_ok_weaker}
pub use Rattle.std.proofs.lemmas.Simd.{map-map}
pub use Rattle.std.proofs.lemmas.Slice.{take-put_mid}
pub use Rattle.std.proofs.lemmas.Slice.Eq.{bytes_eq-Decides}
pub use Rattle.std.proofs.lemmas.Slice.Zip.{AllZip-long, all_zipped_more, get_or-zip, length-zip}
pub use Rattle.std.proofs.lemmas.Str.{IsUtf8-from_ascii, IsUtf8-from_is_utf8, utf8_valid_len-IsUtf8}
pub use Rattle.std.proofs.lemmas.Str.Ascii.{IsAscii-from_all}
pub use Rattle.std.specs.BTreeMap.{BTreeMap, IsOrdered, IsUnchanged, get, insert_entry, is_at, values}
pub use Rattle.std.specs.BTreeSet.{BTreeSet, contains}
pub use Rattle.std.specs.BinaryHeap.{IsHeap, IsUpperBound, PopsGreatest, heap_items, heap_len}
pub use Rattle.std.specs.Borrow.{Bor}
pub use Rattle.std.specs.Cmp.{IsStrictWeakOrder, IsTotalOrder, nat_cmp_is, nat_cmp_total, on_total, then_total, tied_then, unsigned_tied}
pub use Rattle.std.specs.Cmp.Lexicographic.{slice_cmp}
pub use Rattle.std.specs.Fmt.{digit_glyph, digits_onto, signed_decimal}
unfoldable pub use Rattle.std.specs.Fmt.{digits}
pub use Rattle.std.specs.Int.{Width, byte_at, byte_len, bytes_high_first, cast_signed, cast_unsigned, from_be_bytes, int_rem_euclid, to_be_bytes, w128, w16, w32, w64, w8}
unfoldable pub use Rattle.std.specs.Int.{int_wrap}
pub use Rattle.std.specs.List.{AllByRecursion, AllPairs, AllWithin, AllZip, Contains, IsAllAdjacentAnswer, after_first, before_first, cons_option, each_same, enumerate_from, list_all, list_any, onto_first, position_from, position_or_len, prefix_len, range_with_len, refill, repeat, slice_split, swap}
pub use Rattle.std.specs.List.Sorted.{IsNonDecreasingBy, IsPartitionPoint, IsPartitionedBy, IsPermutation, IsSortedBy, IsSortedByKey, IsStableByKey, IsStrictlySortedBy, ties}
pub use Rattle.std.specs.Map.{keys_of, lookup, remove_entry, values_of}
pub use Rattle.std.specs.Map.Iter.{deref}
pub use Rattle.std.specs.Option.{ForSome, option_cmp, option_copied, option_or, option_to_list}
pub use Rattle.std.specs.Ordering.{is_eq, is_ge, is_lt, nat_cmp, ordering_reverse, ordering_then}
pub use Rattle.std.specs.Prelude.{IfErr, IfNone, IfOk, IfSome, IsErr, IsErrOf, IsOk, IsSome, IsSomeAnd, IsTrue, MatchBool, OnErr, OnOk, Vec, count_by, filter, filter_map, find, flat_map, fold, if◌then◌else◌, is_err, is_none, is_ok, is_some, nat_eq, nat_le, nat_lt, option_and_then, option_map, position, reverse, slice_get, slice_index, slice_index_or, sum_by, unwrap_or, zip, ◌-ℤ◌, ◌<ℤ◌, ◌==◌}
pub use Rattle.std.specs.Result.{IsErrAnd, result_and, result_err}
pub use Rattle.std.specs.Simd.{first_chunks}
pub use Rattle.std.specs.Slice.{IsItemAt}
unfoldable pub use Rattle.std.specs.Str.{chars, is_utf8}
pub use Rattle.std.specs.Str.Lossy.{valid_len_up_to}
unfoldable pub use Rattle.std.specs.Str.Lossy.{utf8_valid_len}
pub use Rattle.std.specs.Vec.{with_items}
pub use Rattle.std.specs.Vec.Iter.{into_iter_items}
