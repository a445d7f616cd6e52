-- The words of this crate's proofs, from where they stand.
pub use Rattle.list_laws.proofs.Std.{List, None, Option, Some, [], ap, arith, cases_eq, div-add-mod', flat_map, inl, inr, is_some, length-range_with_len, map, mod_below, range_with_len, refl, same_Some, slice_get, slice_get_within, suc, sym, true, zero, ℕ, ◌%◌, ◌*◌, ◌+◌, ◌/◌, ◌<◌, ◌∙◌, ◌∷◌, ◌≡◌, ◌≤◌, ◌⊎◌, nat_tests}
pub use Rattle.list_laws.proofs.Common.{entry_map, get_left, get_right, same_factor, value_of_some}
pub use Rattle.list_laws.proofs.Types.{Header, Post, Var}
pub use Rattle.rank_items.specs.Own.{HasOwnElements}
pub use Rattle.serial_spec.proofs.Common.{AreApart, Holding, IsElement, IsOwnOnce, bytes_of, bytes_of_some, elements, elements_apart, holdings, is_sound, place, places, product, size_of, size_pos}
pub use Rattle.vara_extents.proofs.NumberLaws.{element_at, length-places, place_at}
pub use Rattle.vara_extents.proofs.OnceLaws.{in_block, range_at}
pub use Rattle.vara_extents.proofs.PlaceLaws.{accepted_place}
pub use Rattle.vara_extents.specs.Accepted.{IsAccepted}
pub use Rattle.vara_extents.specs.Numbered.{index_of}
