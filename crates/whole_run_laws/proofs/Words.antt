-- The words of this crate's proofs, from where they stand.
pub use Rattle.list_laws.proofs.Std.{AllByRecursion, Bool, List, None, Option, Some, [], add-one, and-false, ap, append-nil, append_assoc, arith, byte_len, cases_lt, common_steps, cond, drop, drop-append-add, enumerate_from, eqb_tells, false, filter, flat_map, flat_map-append, fold, fold-append, fold-map, get_or, get_or-replicate, get_or_past, inl, inr, is_none, leb-true, length, length-map, length-replicate, length-set, list_all, list_any, lt-ltb, ltb, ltb-false, map, map-append, max, mul-div_cancel, mul-le-mul_left, nat_le, nat_lt, nat_tests, not, option_or, or_cases, or_from, range_with_len, refl, replicate, same_Some, set, slice_get, slice_get_within, subst, suc, sum_by-cons, sym, take, take_at, true, zero, zip, ℕ, ◌&&◌, ◌*◌, ◌++◌, ◌+◌, ◌<◌, ◌==◌, ◌||◌, ◌∙◌, ◌∷◌, ◌≡◌, ◌≤◌, ◌⊎◌, ltb-true}
pub use Rattle.std.proofs.Common.{◌-◌, option_map}
pub use Rattle.std.proofs.lemmas.List.Folds.{list_all-append}
pub use Rattle.std.proofs.Math.Seq.{take_all}
pub use Rattle.std.proofs.lemmas.List.{length-append}
pub use Rattle.std.specs.Prelude.{ℤ}
pub use Rattle.join_laws.proofs.Completing.{collective_kind}
pub use Rattle.join_laws.proofs.GoodLaws.{Fit, good_first, heard_fits, most_posts_held, offer_fits}
pub use Rattle.join_laws.proofs.QuietLaws.{quiet_step}
pub use Rattle.join_laws.proofs.RankLaws.{Kinded, Went, at_meeting, at_solo, go_went, hear_known, hear_length, hear_mode}
pub use Rattle.join_laws.proofs.StepLaws.{going_after, goings_long, meeting_within, replied, replies_long, solo_of_is}
pub use Rattle.list_laws.proofs.Common.{and_first, and_second, any_map, cons_rest, each_weaker, either, holds_or_not, entry_below, entry_map, entry_set, entry_set_other, equal_itself, fails_at, fails_each, first_counts, get_left, get_right, le_two, map_map, nil_cons, no_both, no_false, or_first_false, or_second_false, part, part_joined, part_none, same_le, second_counts, some_or_none}
pub use Rattle.list_laws.proofs.Types.{Answer, Bits, Call, Code, Direction, DiskCall, Extra, Get, Given, Header, Hints, Mark, Meet, MeetKind, NcType, Numbers, Offer, OfferKind, OverlapRule, Pair, Part, Post, Put, Refuse, Region, Reply, Script, Solo, Text, Values, Var, Varn, Want, count_of}
pub use Rattle.overlay_laws.proofs.Common.{any_in, div_grows, each_in, filter_ascends, flat_in, in_either, in_flat, in_map, in_order_ascends, in_range, last_below, map_in, numbered_in, range_low, same_file, window_short}
pub use Rattle.owner_laws.proofs.HeldClients.{set_cases}
pub use Rattle.rank_core.proofs.FillLaws.{share_grows, share_within}
pub use Rattle.rank_core.proofs.FillLookLaws.{posts_filled}
pub use Rattle.rank_core.proofs.FillPostLaws.{shifted_is}
pub use Rattle.rank_core.proofs.LookLaws.{parts_pass}
pub use Rattle.rank_core.proofs.OutcomeLaws.{outcome, outcome_posts}
pub use Rattle.run_laws.proofs.CallLaws.{Says, step_says}
pub use Rattle.run_laws.proofs.LawfulLaws.{own_lawful, ranks_lawful}
pub use Rattle.run_laws.proofs.OrderLaws.{state_more, states_more}
pub use Rattle.run_laws.proofs.StandingLaws.{comes_to_meeting, solo_goes}
pub use Rattle.run_laws.proofs.WayLaws.{kinds_skip, kinds_take, marks_alone, marks_meet, marks_solo}
pub use Rattle.run_laws.specs.Ways.{kinds_of}
pub use Rattle.serial_spec.proofs.Common.{AreApart, Cell, Class, Counted, Going, Holding, Holds, In, IsElement, IsElementBelow, IsIndex, IsLegal, IsOrApart, IsRedefined, IsSharedPair, IsUnshared, KeepsVars, Key, Moves, Open, Puts, Rank, Setting, accepted_elements, added, advance, after_grows, after_keeps, after_mark, after_meeting, after_puts, after_solo, answer, answers, at, at-longer, at-written_inside, at_in, batch_of, bound, box_indices, box_post, box_region, boxes_right, byte_or, byte_or_later, bytes_of, bytes_of_some, calls_from, canon, cells, cells_said, check_parts, check_some, check_var, class_of, closed, code_of_look, collective_windows, concerns, coordinates, coordinates_all, coordinates_at, count, count_long, count_width, covered, data_bytes, data_code, direction_of, element_inside, elements, elements_apart, elements_of_all, elements_past_header, end_for, end_grows, ext_of, fill_bytes, fill_var, filled, fills, filter_in, find_var, first_end, first_going, first_state, fixed_variables, found_long, get_bytes, get_post, gets_of, go, greatest, greatest_joined, grow_to, has_element, header_len, hear_open, hears, holdings, hull_len, in_at, in_filter, in_order, index_at, index_is_element, inner_lengths, is_collective, is_data, is_empty, is_lawful, is_meeting, is_of_rank_below, is_ok_code, is_record, is_sound, is_varn, is_within, key_below, key_equal, kind_code, kind_of_call, kind_of_meeting, kinds, known_by, known_of, last_of, lawful_parts, length-coordinates, lengths, loads, longer, longer-enough, longer_long, look, look_at, look_fill, look_parts, look_record, look_region, mark_calls, mark_grows, marks, marks_from, meeting, meeting_calls, needed, needed_by, needs, offers_look, offers_of, overlays, packed_bytes, pair_found, pair_none, part_posts, part_region, part_regions, parts_code, place, places, post_says, posts_of, product, put_calls, put_post, put_some, puts_keep, puts_of, puts_said, raised, raised_grows, raised_keeps, raised_records, raises, rank_offer, read, records_of, redefined, redefined_is, redefined_keeps, refused, resized, row, row_once, run_calls, said_append, said_at, said_below, said_by, said_by_puts, said_inside, said_past, second_end, serial, serial_from, setting_of, share_begin, shared_pair, shifted, sieved, sieving_windows, size_of, solo, solo_calls, solo_of, some_fits, some_rank, start, state_after, step, store_records, told, told_under, val, value_at, values_bytes, widen, with_extra, with_records, write_cells, written, written_grows, wrong_length}
pub use Rattle.serial_spec.proofs.CellLaws.{read_same, said_of, same_index}
pub use Rattle.var_layout.proofs.ElementPlaces.{same_len}
pub use Rattle.var_layout.proofs.WrittenLengths.{canon_len}
pub use Rattle.whole_run_laws.specs.Completed.{IsBesideCount, completed, completed_from, completed_puts, is_held, puts_asked, puts_at, puts_met, unless_told}
pub use Rattle.whole_run_laws.specs.Filling.{AllFill, Fills, filling, share_boxes}
pub use Rattle.whole_run_laws.specs.Orders.{all_meetings, has_independent, has_solo, is_independent}
pub use Rattle.whole_run_laws.specs.PartCalls.{joined, last_values, makes, on_part, own_values, put_parts, request_values, then_more, values_from}
pub use Rattle.whole_run_laws.specs.Redefined.{IsCounted, IsRedefinition, element_value}
pub use Rattle.whole_run_laws.specs.Told.{IsToldAt, meeting_call, told_at}
pub use Rattle.whole_run_laws.specs.Transfers.{is_count_store, longest, transferred}
