-- The words of this crate's proofs, from where they stand.
pub use Rattle.std.proofs.Common.{Bool, Err, List, None, Ok, Option, Result, Some, [], ap, append_assoc, arith, cond, drop, false, get_or, inl, inr, leb, length, length-append, map, nat_lt, not, refl, replicate, set, subst, suc, sym, take, true, zero, ℕ, ◌&&◌, ◌*◌, ◌++◌, ◌+◌, ◌-◌, ◌/◌, ◌<◌, ◌||◌, ◌∙◌, ◌∷◌, ◌≡◌, ◌≤◌, ◌⊎◌}
pub use Rattle.std.proofs.Math.Nat.{mul-div_cancel}
pub use Rattle.std.proofs.Math.Seq.{take-add, take-append_seam}
pub use Rattle.std.proofs.lemmas.Bool.{and_from, cases_eq, lt-leb, ltb-true, or_from}
pub use Rattle.std.proofs.lemmas.Bool.Decides.{nat_tests}
pub use Rattle.std.proofs.lemmas.List.{drop-drop, drop-map, drop_more, length-map, take-map}
pub use Rattle.std.proofs.lemmas.List.Folds.{list_all-append}
pub use Rattle.std.proofs.lemmas.List.FromFn.{length-range_with_len}
pub use Rattle.std.proofs.lemmas.Option.{cond_some, same_Some, slice_get-map, slice_get_read, slice_get_within}
pub use Rattle.std.specs.Iterator.{MakesProgress, item_count}
pub use Rattle.std.specs.List.{AllByRecursion, AllZip, enumerate_from, find, list_all, list_any, position, position_or_len, prefix_len, range_with_len, refill}
pub use Rattle.std.specs.Option.{IfSome, is_none, is_some, option_map, option_or}
pub use Rattle.std.specs.Prelude.{OnErr, OnOk, filter, flat_map, slice_get, zip, ◌==◌}
