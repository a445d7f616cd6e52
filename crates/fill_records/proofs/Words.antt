-- The words of this crate's proofs, from where they stand.
pub use Rattle.list_laws.proofs.Std.{not-true, AllZip, Bool, IfSome, List, None, Option, Some, [], add-mod-mod, add-mod_right, ap, append-nil, append_assoc, arith, cases_lt, cond, div-add-mod', div_below, drop, drop-append-add, drop-drop, drop_at, drop_more, each_same, eqb-false, false, filter-append, find, find-append, flat_map, flat_map-append, fold, fold-map, get_or, get_or-map-range_with_len, inl, inr, length, length-append, length-map, length-map-range_with_len, map, map-append, min, mod-eq_of_lt, mod-mod, mod_below, mul-div_cancel, mul-mod_left, mul-one, nat_le, nat_lt, nat_tests, not, on_err_weaker, on_ok_weaker, option_or, places, range_with_len, refl, repeat, replicate, same_number_lists, slice_get, slice_index, subst, suc, sym, take, take-append-drop, take_at, take_more, true, zero, zero-mod, ℕ, ◌%◌, ◌*◌, ◌++◌, ◌+◌, ◌-◌, ◌/◌, ◌<◌, ◌==◌, ◌∙◌, ◌∷◌, ◌≡◌, ◌≤◌, ◌⊎◌, eqb-true, ltb-true, ltb-false, common_steps}
pub use Rattle.std.proofs.Common.{length-take}
pub use Rattle.std.proofs.Math.Seq.{take_all}
pub use Rattle.std.proofs.lemmas.List.Sums.{fold-append}
pub use Rattle.fill_records.specs.Filling.{at_row, boxes_before, filled_variable, repeated, variable_stores}
pub use Rattle.list_laws.proofs.Common.{both_none, either, entry_map, entry_read, if_some_at, map_map, on_err, some_factor, told_else}
pub use Rattle.list_laws.proofs.Types.{Attr, DiskCall, Header, NcType, Part, Store, Var}
pub use Rattle.nc_outside.proofs.ToldLaws.{calls_more, no_calls}
pub use Rattle.nc_outside.specs.DiskState.{PartlyWritten}
pub use Rattle.nc_outside.specs.Told.{BothTold, after, with_end}
pub use Rattle.overlay_laws.proofs.Common.{IsBetween, between_next, count_is, stores_before, stores_more, window_inside, windows_of, windows_reach}
pub use Rattle.serial_spec.proofs.Common.{In, filter_in, in_at, at, boxes, coordinates, default_fill, end_of, end_of_var, ext, fill_bytes, fill_var, filled, fixed_variables, found_long, get_or-written_above, get_or-written_below, get_or-written_within, greatest_holds, header_len, in_row, inner_lengths, is_fill_value, is_record, is_sound, last_share, length-written_inside, meet, none_shared, none_with, place, product, records_meet, recsize, row, share, sharing_from, sharing_with, size_most, size_of, slab, slab_below, stores, vsize, whole_rows, write_none, written, written-inside}
pub use Rattle.serial_spec.proofs.MemberLaws.{in_left}
pub use Rattle.var_layout.proofs.Capping.{product-append}
pub use Rattle.var_layout.proofs.ElementPlaces.{place_fixed, sound_end}
pub use Rattle.var_layout.proofs.Soundness.{if_there}
