-- The words of this crate's proofs, from where they stand.
pub use Rattle.list_laws.proofs.Std.{AllByRecursion, Bool, Contains-permutation, Err, IfErr, IfErr-weaker, IfOk, IfOk-weaker, IsPartitionPoint, IsPartitionPoint-from_clause, IsPartitionedBy, IsPermutation, IsPermutation-sym, IsStrictWeakOrder, IsTotalOrder, List, None, Ok, OnErr, OnOk, Option, Result, Some, [], add-one, always_returns_same, and_cases, and_from, and_left, and_parts, and_right, ap, arith, both_ways, bytes_eq-Decides, cases_Bool, cases_lt, cases_order, common_steps, cond, cond-false, cond-true, cons_option, div-add-mod', drop, drop_more, eq-eqb, eqb, eqb-false, eqb-true, err_from_is_err_and, false, false_from_ne_true, filter, filter_same, find, flat_map, ge_from_not_lt, get, get_or, get_or-map, get_or-range_with_len, get_or_default, get_or_from_slice_get, inl, inr, into_iter_items, is_eq, is_eq-slice_cmp, is_lt, le-ltb, leb, leb-false, leb-true, length, length-map, length-range_with_len, length-replicate, length-take, length_permutation, list_all, list_any, list_any-append, lt-leb, lt-ltb, ltb, ltb-false, ltb-true, map, map-append, map_more, map_push, mod_below, mul-div_cancel, mul-le-mul_left, nat_tests, nat_cmp, nat_cmp_total, nat_lt, ne_eqb, not, not-false, not_from_true, on_ok_weaker, on_total, option_copied, option_map, or_from, or_left, or_parts, or_right, ordering_reverse, ordering_then, position, position-Some, position_or_len_is, range_with_len, ranks_by, refl, replicate, rules, same_Some, slice_cmp, slice_get, slice_get_read, slice_get_within, slice_index, sorted_far, subst, suc, sum, sum-map, sum_by-cons, sum_by_push, sym, take, take-length, take-suc, then_total, true, with_items_is, zero, ℕ, ◌%◌, ◌&&◌, ◌*◌, ◌++◌, ◌+◌, ◌-◌, ◌/◌, ◌<◌, ◌||◌, ◌∙◌, ◌∷◌, ◌≡◌, ◌≤◌, ◌⊎◌}
pub use Rattle.std.proofs.Common.{IfSome, append-nil, is_none, zip}
pub use Rattle.std.proofs.lemmas.List.{append_assoc, length-append}
pub use Rattle.std.proofs.lemmas.List.Concat.{flat_map-append}
pub use Rattle.std.specs.Cmp.Lexicographic.{nat_list_cmp_total}
pub use Rattle.std.specs.Prelude.{bytes_eq}
pub use Rattle.std.specs.declared.cmp.Ordering.{Ordering}
pub use Rattle.std.specs.declared.cmp.Ordering.TheVariants.{Equal, Greater, Less}
pub use Rattle.fill_records.proofs.CutLaws.{boxes_few, no_boxes}
pub use Rattle.imap_extents.proofs.PositionLaws.{length-positions, no_coordinates, range_below, range_more, rows_more}
pub use Rattle.imap_extents.proofs.RefusalLaws.{lacks, part_refused, range_refused}
pub use Rattle.imap_extents.specs.Mapped.{IsMapped}
pub use Rattle.imap_extents.specs.Refusals.{IsRangeRefusal}
pub use Rattle.list_laws.proofs.Common.{all_below, any_map, each_append, filter_at_most, get_left, get_right, either, holds_or_not, entry_map, map_map, no_none_some, or_false, passes_at, pieces_long, position_map, range_append, some_factor}
pub use Rattle.list_laws.proofs.Types.{Answer, Answered, Batch, Bits, Bput, Call, CallErr, Choice, Code, Dim, Direction, Form, Get, Given, Header, Iget, Iput, Item, MeetKind, NcType, Numbers, OfferKind, Part, Post, PostKind, Put, Region, Text, Value, Values, Var, Want, count_of}
pub use Rattle.overlay_laws.proofs.Common.{In, coordinate_row, div_grows, each_in, flat_in, in_flat, in_map, map_in, range_high, range_low, read_in}
pub use Rattle.rank_core.specs.Heard.{filled_by, joined}
pub use Rattle.rank_core.specs.Indexed.{IsInOrder, is_below, name_at, place_cmp}
pub use Rattle.rank_core.specs.Kept.{state_of}
pub use Rattle.rank_core.specs.Looked.{ComesTo, HasValues, IsCode, as_look, ext_at, look_of, posts_of, settled, some_unfit, unfit_at}
pub use Rattle.rank_core.specs.Offered.{IsGet, IsPut, IsSoundWant}
pub use Rattle.rank_core.specs.OpenOffers.{as_open}
pub use Rattle.rank_core.specs.Ranked.{Ranked, WaitsFor}
pub use Rattle.rank_core.specs.Requests.{AreGets, AreOnce, ArePuts, AreRequests, AreTowards, HaveId, IsOpen, IsRequest, direction_of_kind}
pub use Rattle.rank_core.specs.Stepped.{IsSomeLook, most_of, most_posts}
pub use Rattle.rank_core.specs.Targets.{IsSmall, IsTargetOf}
unfoldable pub use Rattle.rank_core.specs.Targets.{fill_posts, look_record}
pub use Rattle.rank_core.specs.declared.look.Look.{Look}
pub use Rattle.rank_core.specs.declared.look.Look.TheVariants.{Asks, Empty, Refused}
pub use Rattle.rank_core.specs.declared.look.target.Target.{Target}
pub use Rattle.rank_core.specs.declared.open_offer.OpenOffer.{OpenOffer}
pub use Rattle.request_queue.proofs.PostedLaws.{has_posted, not_posted, status_of-push}
pub use Rattle.request_queue.specs.Queued.{Queued, id_of, rank_with, with_request}
pub use Rattle.run_laws.specs.Requests.{posts_held, posts_of_status}
pub use Rattle.serial_spec.proofs.Common.{AreApart, Class, Gone, Holding, IsElement, IsElementBelow, IsIndex, IsOwnOnce, IsRefusal, Key, NullRequest, Open, Posted, Rank, Status, Waiting, accepted_elements, answer, answers, any_member, are_sizes, are_values, asks_too_much, at_in, attach_code, bad_edge, bad_start, batch_chosen, batch_of, be_long, bound, bounds, box_indices, box_post, box_region, boxes, boxes_right, buffer_code, bytes_in, bytes_of, bytes_of_some, check, check_parts, check_some, check_var, chosen, class_of, code_of, code_of_look, coordinates, coordinates_all, data_bytes, data_code, detach_code, dim_at, direction_of, elements, elements_apart, elements_of_all, end_grows, end_of, error_of, ext_of, file_limit, fill_bytes, fills, filter_in, find_dim, find_var, first_code, first_refusal, found_long, gathered, gets_in, got_values, greatest, has_element, has_id, has_index, has_its_lists, header_len, holdings, in_at, in_row, index_at, inner_lengths, is_chosen, is_given, is_lawful_call, is_ok_code, is_part, is_post_of, is_put, is_record, is_record_past, is_sound, is_varn, item_code, items_from, items_of, kind_at, kind_code, last_position, length-coordinates, length_of, lengths, lengths_of, look, look_at, look_fill, look_parts, look_region, meets_refused, most_elements, most_parts, named, no_posts, offers, offers_look, open_blocking, open_empty, other_shape, packed_bytes, part_posts, part_region, part_regions, parts_code, place, places, position_at, positions, post_after, posts, product, puts_in, reach, record_limit, records_of, row, share_begin, share_element, shifted, size_of, some_edge, some_fits, some_start, spread, starts_with_zero, status_of, value_at, values_bytes, values_code, values_for, values_of_post, waits, wanted, wants, whole_rows, widen, width_of, with_more, with_posted, without_chosen, without_record}
pub use Rattle.var_layout.proofs.ElementPlaces.{same_len}
pub use Rattle.var_layout.specs.Capped.{capped}
pub use Rattle.vara_extents.proofs.AcceptedLaws.{Passes, passed}
pub use Rattle.vara_extents.proofs.OnceLaws.{post_once}
pub use Rattle.vara_extents.proofs.PartLaws.{ok_both}
pub use Rattle.vara_extents.specs.Parts.{parts_code_at, refusal_of}
