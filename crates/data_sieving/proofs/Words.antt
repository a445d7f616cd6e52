-- The words of this crate's proofs, from where they stand.
pub use Rattle.list_laws.proofs.Std.{cases_Bool, Bool, IfSome, List, None, Option, Some, [], ap, append-nil, append_assoc, arith, cases_lt, common_steps, cond, drop, drop_at, false, filter, filter-append, flat_map, fold-append, get_or, get_or-set_other, get_or-set_same, inl, inr, le-leb, leb-true, length, length-drop, length-range_with_len, length-set, length-take, lt-leb, lt-ltb, map, map-append, max, min, nat_le, nat_lt, nat_tests, option_or, range_with_len, refill, refl, rules, same_Some, set, slice_get-get_or, subst, sym, take, take-add, take-append-le, take-append_seam, take_all, take_at, take_min, take_more, true, ℕ, ◌&&◌, ◌++◌, ◌+◌, ◌-◌, ◌<◌, ◌==◌, ◌^◌, ◌∙◌, ◌∷◌, ◌≡◌, ◌≤◌, ◌⊎◌, eqb-true, eqb-false, ltb-true, ltb-false}
pub use Rattle.std.proofs.Common.{slice_get}
pub use Rattle.std.proofs.lemmas.List.{length-append, nil_from_length}
pub use Rattle.std.proofs.lemmas.Option.{slice_get_cases}
pub use Rattle.std.specs.Option.{option_map}
pub use Rattle.aggregator_rounds.proofs.CoveredBytes.{covered_below, covered_front, covered_left, covered_past, front_covered, hole_short, in_ranges, past_covered, ranges_in}
pub use Rattle.aggregator_rounds.proofs.EntryCells.{covered_place, entries_from, entries_two, entries_within, entry_cells, unsaid}
pub use Rattle.aggregator_rounds.proofs.PartSteps.{found_at, laid_cell, slot_below}
pub use Rattle.aggregator_rounds.proofs.PastSteps.{all_left, past_all, past_extents, past_found, past_in, past_kept, past_sorted, past_twice, walk_begin}
pub use Rattle.aggregator_rounds.proofs.ReadParts.{IsRead, buffer_cells, got_says, parts_got, parts_within, read_as, read_once, says_got, whole_parts}
pub use Rattle.aggregator_rounds.proofs.RoundLaws.{from_less, window_begun, window_refused_by, window_told_by}
pub use Rattle.aggregator_rounds.proofs.SplitSteps.{before_or_later, entry_ends, extents_left, extents_right, first_begins, first_joined, front_all, front_sorted, no_entry, none_got, sorted_right}
pub use Rattle.aggregator_rounds.specs.EntryParts.{AreFilled, IsCovered, blob_at, buffer_cell, got_cells, part_in, places_of, source_of}
pub use Rattle.aggregator_rounds.specs.Left.{BeginBefore, IsPast, entries_left}
pub use Rattle.aggregator_rounds.specs.ToldWindows.{told_window}
pub use Rattle.data_sieving.specs.Sieving.{AreAsLong, FitBlobs, HasGot, HaveOnePlace, LieOn, entry_windows, of_slot, put_cells}
pub use Rattle.data_sieving.specs.Walked.{AreLeft, HasDone, HasGotPart, IsHull, IsNext, LieAcross, Reach, bytes_from, entries_in, windows_from}
pub use Rattle.file_domains.proofs.WalkSteps.{walked_enough}
pub use Rattle.file_domains.specs.declared.walk.Window.{Window}
pub use Rattle.list_laws.proofs.Common.{none_last, equal_below, equal_true, filter_at_most, first_counts, on_err, second_counts, some_or_none}
pub use Rattle.list_laws.proofs.Types.{DiskCall, Extent, Owned, Post}
pub use Rattle.nc_outside.proofs.ToldLaws.{no_calls, with_end-with_end}
pub use Rattle.nc_outside.specs.Told.{BothTold, after, with_end}
pub use Rattle.overlay_laws.proofs.Common.{AreFound, EndBelow, In, IsAscending, IsBegun, IsBetween, IsByPlace, Source, append_within, cells_long, clips, clips_from, clips_in, clips_within, drop_first, entry_in, extents, filter_all, filter_ascends, first_least, in_either, in_extents, in_in_order, in_left, in_order_ascends, in_order_in, in_range, in_right, last_below, last_most, load_calls, moved_said, none_below, none_past, range_ascends, range_high, range_low, ranges, said_by_joined, said_in_any_order, said_is, said_joined, same_ascending, same_said, says_cases, says_left, says_right, sieved_walked, store_calls, told_of, triple_same, within_lowered, within_more}
pub use Rattle.serial_spec.proofs.Common.{Cell, IsFrom, IsOneValued, IsWithin, Says, at, at_in, cells_said, filter_in, first_of, hull_len, in_filter, in_order, length-written_inside, loads, moved_down, overlays, read, said_at, said_by, sieved, sieving_windows, write_cells, written}
