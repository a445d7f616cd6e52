-- The words of this crate's proofs, from where they stand.
pub use Rattle.list_laws.proofs.Std.{All-cons, All-head, All-map, All-nil, All-tail, AllByRecursion, Bool, IfSome, IsPermutation, IsPermutation-keeps, IsPermutation-sym, IsPermutation-trans, IsSortedBy, IsStrictWeakOrder, List, None, Option, Some, [], always_returns_same, and_from, and_parts, ap, arith, both_ways, cases_eq, cases_lt, common_steps, cond, div-add-mod', div-mul-add, div_below, drop, drop-drop, drop_all, eq-eqb, eqb, eqb-false, eqb-true, false, filter, filter_same, flat_map, get_or, get_or-append_right, get_or-drop, get_or-zip, get_or_append_left, get_or_default, if◌then◌else◌, inl, inr, is_lt, le-ltb, leb, leb-false, length, length-drop, length-map, length-range_with_len, length-swap, length-zip, length_permutation, list_any, list_any-append, lt-ltb, lt_of_mul-lt-mul_right, ltb, ltb-false, ltb-true, map, map-append, map_more, map_push, max, min, mod-mul-add, mod_below, mul-div_cancel, mul-le, mul-le-mul_left, mul-mod_left, nat_cmp, nat_list_cmp_total, nat_tests, ne_eqb, not-false, or_parts, range_with_len, ranks_by, refl, replicate, rules, same_Some, same_number_lists, slice_cmp, slice_get, slice_get_within, sorted_far, subst, suc, sum_by, sum_by_more, swap, swapped_from_swap, sym, take, take-add, take_all, take_rest, transport, true, unwrap_or, with_items_is, zero, ℕ, ◌%◌, ◌&&◌, ◌*◌, ◌++◌, ◌+◌, ◌-◌, ◌/◌, ◌<◌, ◌==◌, ◌^◌, ◌||◌, ◌∙◌, ◌∷◌, ◌≡◌, ◌≤◌, ◌⊎◌}
pub use Rattle.std.proofs.Common.{zip}
pub use Rattle.std.proofs.Math.Seq.{drop-cons}
pub use Rattle.std.proofs.lemmas.List.{append_assoc, length-append}
pub use Rattle.std.specs.Prelude.{All, bytes_eq}
pub use Rattle.list_laws.proofs.Common.{any_map, drop_at, each_at, each_map, each_weaker, entry_map, get_left, get_right, goes_on, holds_or_not, no_false, range_append, same_factor}
pub use Rattle.list_laws.proofs.Types.{Code, Direction, Extent, Header, Part, Post, Region, Var}
pub use Rattle.serial_spec.proofs.Common.{Cell, HasRecord, IsElement, IsElementBelow, IsIndex, IsOnce, accepted, accepted_elements, asks_too_much, at, at-written_after, at-written_before, at-written_inside, bounds, bytes_of, bytes_of_some, cells, check_parts, check_some, check_var, coordinates, coordinates_at, element_inside, elements, elements_apart, elements_of_all, end_of, first_refusal, has_element, has_index, header_len, index_at, index_fixed, index_record, inner_lengths, is_ok_code, is_put, is_record, is_sound, length-coordinates, length_of, lengths_of, most_elements, other_shape, part_region, place, places, product, put, record_limit, record_of, records_of, recsize, row, share_element, size_most, size_of, size_pos, slab_fits, some_edge, some_start, spans, starts_with_zero, within_record, without_record, write_cells, written}
pub use Rattle.var_layout.proofs.ElementPlaces.{place_fixed, place_record, product_pos, row_below_bytes}
pub use Rattle.var_layout.proofs.Soundness.{if_there}
pub use Rattle.var_layout.specs.Capped.{capped}
pub use Rattle.vara_extents.specs.Accepted.{IsAccepted}
pub use Rattle.vara_extents.specs.Boxes.{AreByStart, BeginsBy, IsBox, begins_past, boxes_meet, is_past, led_by, meets_any, some_meet}
pub use Rattle.vara_extents.specs.Joined.{IsJoined, cut_by, element_extents, extents_of, joined, joined_to}
pub use Rattle.vara_extents.specs.Left.{AreReady, IsReady, IsRunOf, extents_from, extents_left, run_place}
pub use Rattle.vara_extents.specs.Numbered.{AreRuns, HaveRows, coordinates_of, index_of, row_of, weighted}
pub use Rattle.vara_extents.specs.Parts.{refusal_of, together_code}
unfoldable pub use Rattle.vara_extents.specs.Parts.{code_by_boxes}
pub use Rattle.vara_extents.specs.declared.walk.Run.{Run}
pub use Rattle.vara_extents.specs.declared.walk.Runs.{Runs}
