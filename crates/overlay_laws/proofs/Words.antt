-- The words of this crate's proofs, from where they stand.
pub use Rattle.list_laws.proofs.Std.{◌^◌, append_assoc, AllByRecursion, Bool, Contains, Contains-permutation, IsPermutation, IsPermutation-sym, List, None, Option, Some, [], and_from, ap, append-nil, arith, cases_eq, common_steps, cond, div-add-mod', div-mul-add, div_below, div_ceil_times, drop, drop_more, enumerate_from, eqb-true, ext_get_or, false, filter, filter-append, flat_map, flat_map-append, fold, fold-append, get_or, get_or-append_right, get_or-drop, get_or-take, get_or_append_left, get_or_past, inl, inr, le-div, le-leb, le-ltb, leb-false, leb-true, leb_tells, length, length-map, length-range_with_len, list_any, lt-leb, lt-ltb, map-append, max, min, mod_below, mul-le, mul-le-mul_right, mul_comm, nat_le, nat_lt, nat_tests, not, option_map, option_or, or_cases, or_left, or_right, range_with_len, refl, same_Some, slice_get, slice_get-map, slice_get_read, subst, suc, sym, take, true, zero, zip, ℕ, ◌%◌, ◌&&◌, ◌*◌, ◌++◌, ◌+◌, ◌-◌, ◌/◌, ◌<◌, ◌==◌, ◌∙◌, ◌∷◌, ◌≡◌, ◌≤◌, ◌⊎◌, ltb-false, ltb-true, slice_get_within, get_or_from_slice_get, get_or-range_with_len, slice_get-get_or, length-enumerate_from, flat_map-map}
pub use Rattle.std.proofs.lemmas.List.{length-append}
pub use Rattle.std.specs.List.{slice_index_or}
pub use Rattle.std.specs.Prelude.{map}
pub use Rattle.list_laws.proofs.Common.{and_first, and_second, either, entry_numbered, equal_above, equal_below, equal_true, filter_at_most, first_counts, mapped_entry, neither_some, no_both, no_false, no_none_some, range_append, same_factor, second_counts, some_of_map, some_or_none, take_at_most, both_none, entry_zip, entry_below, some_factor, get_left, get_right, range_first}
pub use Rattle.list_laws.proofs.Types.{DiskCall, Extent, Header, Hints, Owned, Post, Region, Store, Var}
pub use Rattle.overlay_laws.specs.Changes.{IsBetween}
pub use Rattle.overlay_laws.specs.Entries.{AreOf, HaveOwnKeys, HaveSame, In, IsGathered, IsRun, IsRunFrom, Source, cell_of, cells_of, cells_of_puts, cells_of_some, got_cell, ranges}
pub use Rattle.overlay_laws.specs.Hulls.{AreHints, IsAscending, hulls, written_over}
pub use Rattle.overlay_laws.specs.Lines.{extents, EndBelow}
pub use Rattle.overlay_laws.specs.Origins.{AreFound, AtMost, IsGreatest, IsInOrder, IsOnceEach, IsResolved, Origin, byte_at, origins, origins_of}
pub use Rattle.overlay_laws.specs.Parts.{joined, written_parts}
pub use Rattle.overlay_laws.specs.Steps.{HasRoom, HaveStrides, LieApart}
pub use Rattle.overlay_laws.specs.Walks.{IsCover, above, below, end_after, extents_walked, first_at, hull_of, is_single, round_end, told_of, walked}
pub use Rattle.overlay_laws.specs.Windows.{AreParts, HasEach, IsInOne, IsPart, SomeSays, all_read_overlaid, clip, clips, read_overlaid}
pub use Rattle.serial_spec.proofs.Common.{AreApart, Cell, Holding, Holds, IsElement, IsFrom, IsIndex, IsOnce, IsOneValued, IsOwnOnce, IsUnshared, IsWithin, Key, Puts, Says, Setting, after_puts, at, at-written_after, at-written_before, at-written_inside, at_in, byte_or, bytes_of, bytes_of_some, cells, cells_said, collective_windows, coordinates, covered, domain_size, domains, elements, elements_apart, end_for, filter_in, first_of, get_post, get_some, has_byte, holdings, holdings_of_entries, hull_len, in_at, in_filter, in_order, index_at, is_empty, is_sound, key_itself, last_of, length-coordinates, length-written_inside, longer, moved_down, needed_by, not_empty, one_hit, one_says, pair_none, place, places, product, put_post, puts_are_cells, puts_say, range_and_rest, read, read_at, read_long, row, said_append, said_at, said_below, said_by, said_by_puts, said_inside, said_past, same_key, same_pair, shared_pair, shared_pair_of, sieved, sieving_windows, size_of, size_pos, spans, window_count, windows, write_cells, written, any_member, coordinates_at}
