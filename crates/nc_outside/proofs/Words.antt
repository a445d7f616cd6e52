-- The words of this crate's proofs, from where they stand.
pub use Rattle.std.proofs.Common.{List, None, Option, Some, [], ap, append_assoc, arith, drop, inl, inr, length, length-append, min, refl, reverse, rules, sym, take, vec_len, ℕ, ◌++◌, ◌+◌, ◌-◌, ◌<◌, ◌∙◌, ◌≡◌, ◌≤◌, ◌⊎◌}
pub use Rattle.std.proofs.lemmas.Bool.{cases_lt}
pub use Rattle.std.proofs.lemmas.Grind.{flat_map-append}
pub use Rattle.std.proofs.lemmas.List.{append-nil, drop-append-le, drop-drop, drop_all, length-drop, length-take-le, places, reverse-append, reverse-reverse, same_lists, take-append-drop, take_all, take_at, take_rest}
pub use Rattle.std.specs.Prelude.{Vec, flat_map, ◌∷◌}
pub use Rattle.std.specs.declared.alloc.Global.{Global}
pub use Rattle.nc_base.specs.declared.step.DiskCall.{DiskCall}
pub use Rattle.nc_outside.specs.Cause.{Rose}
pub use Rattle.nc_outside.specs.Chains.{items, passed, spread}
pub use Rattle.nc_outside.specs.Told.{BothTold, after, with_end}
pub use Rattle.nc_outside.specs.declared.chain.Chain.{Chain}
pub use Rattle.serial_spec.proofs.Common.{written, written-inside}
pub use Rattle.std.proofs.lemmas.Bool.Decides.{nat_tests}
