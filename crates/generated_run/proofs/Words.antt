-- The words of this crate's proofs, from where they stand.
pub use Rattle.list_laws.proofs.Std.{Bool, Bor, IfOk, List, None, OnOk, Option, SFits, Some, [], and_from, ap, append-nil, append_assoc, arith, bytes_eq, bytes_eq-Decides, codes, common_steps, cond, decimal, drop, enumerate_from, false, fold_push, get_or, ints, length, length-map-range_with_len, length-zip, list_all, list_all-append, list_any, map, map-append, map-range_with_len_more, min, nat_tests, ne_eqb, not_from_false, option_copied, option_map, or_from, pos, range_with_len, refl, replicate, rules, signed_decimal, slice_get, subst, suc, sum, sum_by-append, sum_by_push, sym, take, take_all, take_more, to_z-of_z, true, w128, zero, ℕ, ◌%◌, ◌*◌, ◌++◌, ◌+ℤ◌, ◌+◌, ◌-ℤ◌, ◌-◌, ◌<ℤ◌, ◌<◌, ◌^◌, ◌∙◌, ◌∷◌, ◌≡◌, ◌≤◌}
pub use Rattle.std.proofs.Common.{fold, le-leb, lt-ltb, ◌==◌}
pub use Rattle.std.proofs.lemmas.List.{length-append}
pub use Rattle.std.proofs.lemmas.List.Concat.{flat_map-append}
pub use Rattle.std.proofs.lemmas.List.Sums.{fold-append}
pub use Rattle.std.specs.List.{flat_map, zip}
pub use Rattle.std.specs.Prelude.{neg_ℤ, unsigned_abs, ℤ, ◌*ℤ◌}
pub use Rattle.generated_run.specs.Counting.{FindsGiven, call_done, posted_given}
unfoldable pub use Rattle.generated_run.specs.Made.{calls_of_rank, calls_of_record, columns_of, depths, precip_band, precip_row, region_of_band, temp_band, temp_row, temps}
pub use Rattle.list_laws.proofs.Common.{none_in_range, pieces_long, range_append, range_push, take_next, then_append}
pub use Rattle.list_laws.proofs.Types.{Answer, BitRun, Bits, Bput, Call, Every, Extra, Given, NumberRun, Numbers, bit_steps, bit_steps_more, bits_of_run, bits_of_runs, numbers_of_run, numbers_of_runs, steps, steps_more}
pub use Rattle.script_laws.proofs.ListLaws.{sum_cons, sum_more}
pub use Rattle.script_spec.proofs.Common.{call_got, call_put, default_hints, elements_given, first_row, has_counts, is_counted, line, made_calls, made_header, made_script, over_calls, posted_elements, precip_at, refusals, sum_given, sum_of, temp_at}
unfoldable pub use Rattle.serial_spec.proofs.Common.{canon}
pub use Rattle.serial_spec.proofs.Common.{agree, are_different, is_given, is_lawful, is_lawful_call, is_number, kind_numbers, layout_fault, most_calls, most_values, posted_ids, product, values_in_call, values_in_script}
pub use Rattle.var_layout.proofs.ElementPlaces.{sound_end}
