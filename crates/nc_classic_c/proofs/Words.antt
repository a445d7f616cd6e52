-- The words of this crate's proofs, from where they stand.
pub use Rattle.list_laws.proofs.Std.{AllByRecursion, Bool, Err, IfErr, IfErr-weaker, IfOk, IfOk-weaker, IfSome, on_ok_weaker, IsPermutation, List, None, Ok, OnOk, Option, Result, Some, [], and_from, ap, append-nil, append_assoc, ap₂, arith, below_more, cond, count_by, div-le_self, div-mul-le_self, drop, drop-append-le, drop_all, enumerate_from, err_from_is_err_and, fails_before_first, false, filter, flat_map, flat_map-append, flat_map-map, from_be_bytes, get_or, get_or-drop, get_or-map, get_or-map-range_with_len, get_or-take, inl, inr, le-leb, le-ltb, leb, leb-false, leb-true, length, length-append, length-map, length-map-range_with_len, length-take, length-take-le, list_any, list_any-append, lt-ltb, ltb, ltb-false, ltb-true, map, map-append, map-map, map-range_with_len_more, mod-eq-sub-div-mul, mul-le-mul_right, nat_le, nat_lt, nat_tests, not, not-false, option_copied, or_parts, position, position_or_len, position_or_len_is, range_with_len, refl, rules, same_Some, set, set_at, slice_get, slice_get_within, subst, suc, sum_by-cons, sym, take, take-append-le, take-put_mid, take_all, take_more, take_more_set, to_z-of_z, true, utf8_valid_len-IsUtf8, w32, w64, zero, ℕ, ◌%◌, ◌&&◌, ◌*◌, ◌++◌, ◌+◌, ◌-◌, ◌/◌, ◌<◌, ◌==◌, ◌^◌, ◌||◌, ◌↔◌, ◌∙◌, ◌∷◌, ◌≡◌, ◌≤◌, ◌⊎◌, eqb-true}
pub use Rattle.std.proofs.Common.{length-drop}
pub use Rattle.std.specs.Prelude.{ℤ}
pub use Rattle.cdf_header.specs.Decoded.{BeginsWith}
pub use Rattle.cdf_header.specs.Reading.{kind_of}
pub use Rattle.file_domains.specs.Domains.{LiesIn, low_of, share_of}
pub use Rattle.file_domains.specs.Rounds.{bytes_in, round_windows, window_told, windows_left}
pub use Rattle.file_domains.specs.declared.walk.Window.{Window}
pub use Rattle.file_domains.specs.declared.walk.WindowWalk.{WindowWalk}
pub use Rattle.list_laws.proofs.Common.{and_first, and_second, both_none, each_fails, each_map, each_passes, each_weaker, equal_true, fails_each, filter_at_most, if_some_at, map_map, no_none_some, none_before_map, not_zero, passes_each, position_map, second_counts, told_else}
pub use Rattle.list_laws.proofs.Types.{Align, Dim, Direction, Double, Extent, Float, Header, HeaderErr, Hints, NcType, Owned, Region, Value, Var}
pub use Rattle.nc_classic_c.specs.Accepted.{Accepts, HasRegion}
pub use Rattle.nc_classic_c.specs.Answers.{number_of}
pub use Rattle.nc_classic_c.specs.Counts.{counts_of}
pub use Rattle.nc_classic_c.specs.Definitions.{att_cause, att_refusal, atts_refusal, definition_refusal, dim_refusal, first_refused, is_record_dim, is_record_id, type_cause, var_cause, var_refusal}
pub use Rattle.nc_classic_c.specs.Domains.{is_asked}
pub use Rattle.nc_classic_c.specs.Extents.{AreLaid, filled, laid_at, laid_from}
pub use Rattle.nc_classic_c.specs.Headers.{IsHeaderRefusal, first_bytes}
pub use Rattle.nc_classic_c.specs.Making.{IsMade, IsUnmade, align_of, argument_refusal, is_align, len_told, made_header, of_whole, place_refusal, refusal_of}
pub use Rattle.nc_classic_c.specs.Naming.{name_cause}
pub use Rattle.nc_classic_c.specs.Overlaps.{ends_low, holdings}
pub use Rattle.nc_classic_c.specs.Regions.{direction_of, region_of}
pub use Rattle.nc_classic_c.specs.Sizes.{file_end, needs_shown, sizes_for}
pub use Rattle.nc_classic_c.specs.Tables.{attribute_of, dimension_of, header_of, variable_of}
pub use Rattle.nc_classic_c.specs.Values.{first_out, is_length, pack, packed, patterns, values_of}
pub use Rattle.nc_classic_c.specs.Windows.{AreWindows, bytes_asked, division_of, end_is_low, end_of, ends_are_low, entry, is_division, numbered_windows, shown, step_windows, told, window_shown}
pub use Rattle.nc_classic_c.specs.declared.accepted.Accepted.{Accepted}
pub use Rattle.nc_classic_c.specs.declared.answers.Refusal.{Refusal}
pub use Rattle.nc_classic_c.specs.declared.causes.Unmade.{Unmade}
pub use Rattle.nc_classic_c.specs.declared.extents.NcvExtent.{NcvExtent}
pub use Rattle.nc_classic_c.specs.declared.needs.NcvNeeds.{NcvNeeds}
pub use Rattle.nc_classic_c.specs.declared.overlaps.NcvHeld.{NcvHeld}
pub use Rattle.nc_classic_c.specs.declared.regions.NcvRegion.{NcvRegion}
pub use Rattle.nc_classic_c.specs.declared.sizes.NcvSizes.{NcvSizes}
pub use Rattle.nc_classic_c.specs.declared.tables.NcvAttDef.{NcvAttDef}
pub use Rattle.nc_classic_c.specs.declared.tables.NcvDimDef.{NcvDimDef}
pub use Rattle.nc_classic_c.specs.declared.tables.NcvHeaderDef.{NcvHeaderDef}
pub use Rattle.nc_classic_c.specs.declared.tables.NcvVarDef.{NcvVarDef}
pub use Rattle.nc_classic_c.specs.declared.windows.Division.{Division}
pub use Rattle.nc_classic_c.specs.declared.windows.NcvWindow.{NcvWindow}
pub use Rattle.overlay_laws.proofs.Common.{EndBelow, HaveSame, In, IsAscending, IsCover, cover_in_order, each_in, extents, filter_ascends, filter_two, first_least, holder_of, holds_by, last_joined, last_most, last_of_range, map_in, range_first, ranges, same_permuted, spans_ascend, told_of, walked, windows_walked}
pub use Rattle.serial_spec.proofs.Common.{HasFault, Holds, Key, asks_too_much, at_in, bad_id, canon, check_some, check_var, collective_windows, counts_are_small, domains, ext, ext_long, first_of, fits, fits_count, header_len, holdings_of_entries, is_sound, is_type, is_version, is_writable, is_writable_attr, is_writable_dim, is_writable_list, is_writable_var, last_of, length_of, most_dims, most_dims_of_var, most_vars, not_empty, product, record_later, record_limit, records_of, recsize, same_pair, shared_pair_of, size_of, spans, two_record_dims, val, windows}
pub use Rattle.var_layout.proofs.LaidWritable.{small_count, small_field}
pub use Rattle.var_layout.proofs.Soundness.{if_there}
pub use Rattle.var_layout.specs.Capped.{capped}
pub use Rattle.var_layout.specs.Unplaced.{has_writable_names, has_writable_parts, is_unplaced}
pub use Rattle.vara_extents.proofs.AcceptedLaws.{passed}
pub use Rattle.vara_extents.proofs.NumberLaws.{length-element_extents}
pub use Rattle.vara_extents.specs.Accepted.{IsAccepted}
pub use Rattle.vara_extents.specs.Joined.{element_extents, extents_of, joined, joined_to}
pub use Rattle.vara_extents.specs.Left.{extents_left}
pub use Rattle.vara_extents.specs.declared.walk.Extents.{Extents}
