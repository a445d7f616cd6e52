-- The words of this crate's proofs, from where they stand.
pub use Rattle.list_laws.proofs.Std.{AllWithin, IsPartitionedBy, List, None, Some, [], ap, arith, cases_lt, div-add-mod', div_below, drop, false, filter, filter-append, get_or, get_or_default, inl, inr, le-div, le-leb, leb-false, leb-true, length, lt-leb, lt-ltb, max, min, mod_below, nat_le, nat_lt, nat_tests, range_with_len, refl, same_Some, slice_get-get_or, subst, suc, sym, take, take_all, true, zero, ℕ, ◌&&◌, ◌*◌, ◌++◌, ◌+◌, ◌-◌, ◌/◌, ◌<◌, ◌==◌, ◌^◌, ◌↔◌, ◌∙◌, ◌∷◌, ◌≡◌, ◌≤◌, ◌⊎◌}
pub use Rattle.std.proofs.Common.{length-drop, slice_get, slice_index_or}
pub use Rattle.std.specs.Prelude.{map}
pub use Rattle.file_domains.specs.Domains.{low_of, share_of}
pub use Rattle.file_domains.specs.Rounds.{IsLeft, IsWalk, round_windows, window_told, windows_left}
pub use Rattle.file_domains.specs.declared.walk.Window.{Window}
pub use Rattle.list_laws.proofs.Common.{filter_at_most, goes_on, no_none_some}
pub use Rattle.list_laws.proofs.Types.{Extent}
pub use Rattle.overlay_laws.proofs.Common.{EndBelow, In, IsAscending, IsCover, above, below, below_told, drop_first, end_after, entry_in, filter_ascends, filter_same, filter_two, first_at, flat_in, in_either, is_single, past_round, range_above_none, range_first, range_high, range_low, round_end, spans_above, spans_ascend, spans_below, spans_below_none, spans_past, take_first, told_of, triple_same, walked, windows_walked}
pub use Rattle.serial_spec.proofs.Common.{at_in, filter_in, first_of, spans}
