-- The words that this crate's proofs cite, from where they stand.
pub use Rattle.list_laws.proofs.Std.{Bool, FitsSigned, IfErr-weaker, IfOk, IfOk-weaker, List, None, Option, Some, Width, [], ap, append_assoc, arith, byte_at, byte_len, bytes_high_first, cast_signed, cast_unsigned, common_steps, cond, drop, drop_all, drop_more, eq-eqb, eqb, err_from_is_err_and, false, fill_by_all, first_chunks, flat_map, flat_map-map, flat_map_more, get_or, get_or-map, get_or-take, inl, inr, int_rem_euclid, int_wrap-add_right, ints, is_none, le-leb, leb, leb-false, length, length-append, length-map, length-map-range_with_len, length-range_with_len, length-replicate, length-take-le, list_any, list_any-append, list_any_more, lt-leb, ltb-true, map, map-append, map-range_with_len_more, max, mul-le-mul_left, nat_tests, ne_eqb, negsuc, not, not-false, not_from_true, of_z, of_z-to_z, on_ok_weaker, option_map, or_left, or_parts, or_right, pos, range_with_len, refl, replicate, rules, set, slice_get, slice_get-get_or, slice_get_cases, subst, suc, sum_by-cons, sym, take, take-append-drop, take-map, take_all, take_more, take_more_set, take_rest, to_be_bytes, to_z, to_z-of_z, true, w16, w32, w64, w8, wrapping_add-bits, wrapping_mul-bits, zero, ℕ, ◌*◌, ◌++◌, ◌+ℤ◌, ◌+◌, ◌-◌, ◌/◌, ◌<◌, ◌^◌, ◌||◌, ◌∙◌, ◌∷◌, ◌≡◌, ◌≤ℤ◌, ◌≤◌, ◌⊎◌}
pub use Rattle.std.proofs.Common.{append-nil, length-set, zip}
pub use Rattle.std.proofs.Math.IntN.{neg_ℤ}
pub use Rattle.std.proofs.lemmas.List.Concat.{flat_map-append}
unfoldable pub use Rattle.list_laws.proofs.Std.{int_wrap}
pub use Rattle.std.specs.Int.RustNames.{unsigned_abs}
pub use Rattle.std.specs.Prelude.{Result, min, ℤ, ◌%◌, ◌*ℤ◌}
pub use Rattle.imap_extents.specs.Found.{bits_in, char_in, in_order, value_of_last, values_in}
pub use Rattle.imap_extents.specs.Refusals.{IsRangeRefusal}
pub use Rattle.imap_extents.specs.Saturated.{saturated}
pub use Rattle.list_laws.proofs.Common.{all_below, any_map, map_map, range_append, range_push}
pub use Rattle.list_laws.proofs.Types.{BitRun, Bits, Byte, CallErr, Char, Code, Double, Float, Int, Int64, NcType, NumberRun, Numbers, Region, Short, Text, UByte, UInt, UInt64, UShort, Value, Values, bits_of_runs, count_of, numbers_of_runs}
pub use Rattle.serial_spec.proofs.Common.{Class, IsRefusal, Signed, Unsigned, cells, class_of, code_in, coordinates, ext, ext_of, fits, fits_in, gathered, greatest, is_ok_code, kind_code, length-coordinates, number_in, position_at, positions, product, reach, said_append, said_at, size_of, some_fits, spread, val, value_at, values_code, width_of}
