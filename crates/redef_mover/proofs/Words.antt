-- The words of this crate's proofs, from where they stand.
pub use Rattle.list_laws.proofs.Std.{eqb_tells, BTreeMap, BTreeSet, Bool, Bor, Decides-eqb, Decides-like, Equal, Err, Greater, IfErr, IfOk-weaker, IfSome, IfSome_then, IsNonDecreasingBy, IsNonDecreasingBy-from_sort, IsNonDecreasingBy-from_sort_by_key, IsSortedByKey, IsStableByKey, IsTrue, Less, List, MatchOption, None, Ok, OnErr, OnOk, Option, Result, Some, YieldsList-end, YieldsList-from_enumerate, YieldsList-from_slice, YieldsList-from_zip, YieldsList-turn, [], always_returns_same, and_parts, ap, append-nil, append_assoc, arith, btree_map_updates_str, bytes_eq, bytes_eq-Decides, cases_lt, common_steps, cond, count_by, drop, drop_all, drop_more, drop_of_length-le, enumerate_from, err_from_is_err_and, false, filter, filter-append, filter_agree, filter_more, find, find_at, flat_map, flat_map-append, fold-append, get_or, get_or-enumerate_from, get_or-map, get_or_default, get_or_from_slice_get, if◌then◌else◌, inl, inr, is_eq, is_eq-slice_cmp, is_lt, is_ok, length, length-append, length-enumerate_from, length-map, length-replicate, length-take, length-take-le, length_push, list_all, list_any, list_any-append, ltb-false, map, map-append, max, min, nat_cmp, nat_eq, nat_le, nat_lt, nat_tests, on_err_weaker, on_ok_weaker, option_cmp, option_map, option_or, ordering_then, position-Some, position_from, position_from-zero, position_or_len, prefix_len, range_with_len, refl, reverse, reverse-append, rules, same_from_decides, set, slice_cmp, slice_get, slice_get_past, slice_get_read, subst, suc, sum_by, sum_by-append, sum_by-cons, sum_by_push, sym, take, take-replicate, take_all, take_at, take_more, tied_then, ties, true, unsigned_tied, unwrap_or, zero, ℕ, ◌&&◌, ◌*◌, ◌++◌, ◌+◌, ◌-◌, ◌<◌, ◌==◌, ◌^◌, ◌||◌, ◌↔◌, ◌∙◌, ◌∷◌, ◌≡◌, ◌≤◌, ◌⊎◌, eqb-true}
pub use Rattle.std.proofs.Common.{fold, is_some, position}
pub use Rattle.std.specs.List.{zip}
pub use Rattle.std.specs.Prelude.{not, replicate}
pub use Rattle.list_laws.proofs.Common.{and_first, cons_rest, entry_below, entry_set, entry_set_other, equal_below, equal_suc, first_same, found_passes, map_map, nil_cons, no_false, none_before_map, none_last, on_err, position_below, position_map, range_append, refilled, second_counts}
pub use Rattle.list_laws.proofs.Types.{Attr, Byte, Dim, DiskCall, Extra, Header, LayoutErr, RedefErr, Store, Var}
pub use Rattle.nc_outside.proofs.ToldLaws.{after-after, after-same, calls_more, told_as, with_end-nil, with_end-with_end}
pub use Rattle.nc_outside.specs.DiskState.{PartlyWritten}
pub use Rattle.nc_outside.specs.Told.{BothTold, after, with_end}
pub use Rattle.overlay_laws.proofs.Common.{In, count_is, entry_in, in_flat, in_left, in_map, in_range, in_right, read_slice, same_file, stores_before, stores_more, window_inside, windows_of, windows_reach}
pub use Rattle.redef_laws.proofs.AppliedLaws.{applied_falls, applied_moved, applied_risen, applied_shifted, applied_zeros}
pub use Rattle.redef_laws.proofs.BeginLaws.{vsizes}
pub use Rattle.redef_laws.proofs.RebegunLaws.{rebegun_len}
pub use Rattle.redef_laws.proofs.RisingLaws.{rising_all}
pub use Rattle.redef_laws.proofs.WrittenLaws.{found_fails}
pub use Rattle.redef_laws.specs.Applied.{IsApplied}
pub use Rattle.redef_laws.specs.RisingSlabs.{IsRisen, changes, first_slab, fixed_slabs, gaps, lowest_first, record_slabs, rising, slabs_of_record, stands_below}
pub use Rattle.redef_laws.specs.Shifted.{AreShifted, IsMoved, new_end}
pub use Rattle.redef_mover.specs.Carried.{IsCarriable, IsPartlyCarried, IsPartlyRewritten, carried, carry_calls, rewrite_calls}
pub use Rattle.redef_mover.specs.Indexed.{IsIndexOf, attrs_among, attrs_at, given, has_name, is_same, place_of}
pub use Rattle.redef_mover.specs.Kept.{IsBeside, IsKept, IsOutside, IsUnmoved}
pub use Rattle.redef_mover.specs.Moves.{AreClearable, AreMovable, AreSpaced, AreSteps, IsMovable, all_calls, all_cleared, all_moved, behind, cleared, first_slabs, further, gap_calls, gaps_before, is_kind, listed, slab_calls, slab_moved, slab_of, slabs_at, window, window_calls}
pub use Rattle.redef_mover.specs.NewBegins.{HasOneEach, capped_pairs, fixed_at, fixed_var, in_order, on_side, pairs, record_var, records_at}
pub use Rattle.redef_mover.specs.Ranges.{is_bad, is_bad_var}
pub use Rattle.redef_mover.specs.Relocation.{KeepsPlaces, relocation_calls}
pub use Rattle.redef_mover.specs.declared.name_index.NameIndex.{NameIndex}
pub use Rattle.redef_mover.specs.declared.new_begins.NumberedVar.{NumberedVar}
pub use Rattle.redef_mover.specs.declared.new_begins.Place.{Place}
pub use Rattle.redef_mover.specs.declared.new_begins.Side.{Side}
pub use Rattle.redef_mover.specs.declared.new_begins.Side.TheVariants.{New, Old}
pub use Rattle.redef_mover.specs.declared.slabs.Shift.{Shift}
pub use Rattle.redef_mover.specs.declared.slabs.Slabs.{Slabs}
pub use Rattle.serial_spec.proofs.Common.{IsLengthened, IsTornRedefinition, Numbered, Slab, added, at, at-longer, at-written_after, at-written_before, at-written_inside, attrs_of_var, begin_at, begin_of_number, begins_before, begins_by_number, by_begin, canon, dim_id, extra_fault, extras_fault, extras_from, file_limit, find_var, first_record, first_true, fixed_begins, fixed_of, fixed_order, front_after, get_or-written_within, grow_to, has_attr, has_bad_kind, has_bad_shape, header_len, highest_first, inserted_by, is_bad_begin, is_far_begin, is_large_var, is_one_too_many, is_record, is_taken, is_unknown, is_writable, keeps_bound, least, length-written_inside, longer, longer_long, most_dims, most_header_bytes, move_calls, move_window, new_of, old_of, read, read_at, read_long, record_begins, record_share, record_size, record_variables, records_in, recsize, redefined, redefined_fault, redefined_header, size_fault, slab, slabs, stores, vsize, with_begins, with_extra, with_var_attr, written, written-inside, zero_calls}
pub use Rattle.var_layout.proofs.Capping.{capped_both, capped_sum, capped_sum_more}
pub use Rattle.var_layout.proofs.ElementPlaces.{sound_end}
pub use Rattle.var_layout.specs.Capped.{capped}
