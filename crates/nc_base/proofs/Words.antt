-- The words of this crate's proofs, from where they stand.
pub use Rattle.std.proofs.Common.{List, Option, Some, [], ap, append-nil, append_assoc, arith, drop, false, get_or, length, length-append, map, refl, rules, suc, sym, take, true, zero, ℕ, ◌++◌, ◌+◌, ◌-◌, ◌<◌, ◌∙◌, ◌∷◌, ◌≡◌, ◌≤◌}
pub use Rattle.std.proofs.Math.Nat.{mul-le-mul, mul-le-mul_left}
pub use Rattle.std.proofs.lemmas.Bool.{false_from_ne_true}
pub use Rattle.std.proofs.lemmas.Grind.{common_steps}
pub use Rattle.std.proofs.lemmas.Int.{fits_signed_mul, ints, to_z-of_z, unsigned_abs-mul}
pub use Rattle.std.proofs.lemmas.List.{at_drop_all, drop_more, length-map, take_all, take_more}
pub use Rattle.std.proofs.lemmas.List.Concat.{flat_map-append}
pub use Rattle.std.proofs.lemmas.List.FromFn.{get_or-range_with_len, length-range_with_len, map-range_with_len_more}
pub use Rattle.std.proofs.lemmas.Option.{get_or_from_slice_get, same_Some, slice_get-get_or, slice_get-map, slice_get_within}
pub use Rattle.std.specs.Cmp.Lexicographic.{bytes_decides, pointwise}
pub use Rattle.std.specs.Cmp.Rules.{signed_items}
pub use Rattle.std.specs.List.{range_with_len}
pub use Rattle.std.specs.Ordering.{int_eq}
pub use Rattle.std.specs.Prelude.{nat_eq, option_map, pos, slice_get, unsigned_abs, ℤ, ◌%◌, ◌*ℤ◌, ◌*◌, ◌+ℤ◌, ◌^◌}
pub use Rattle.nc_base.specs.BitForms.{bit_steps, bits_of_run, bits_of_runs}
pub use Rattle.nc_base.specs.NumberForms.{numbers_of_form, numbers_of_run, numbers_of_runs, steps}
pub use Rattle.nc_base.specs.declared.bits.BitRun.{BitRun}
pub use Rattle.nc_base.specs.declared.numbers.NumberRun.{NumberRun}
pub use Rattle.std.proofs.lemmas.Bool.Decides.{nat_tests}
