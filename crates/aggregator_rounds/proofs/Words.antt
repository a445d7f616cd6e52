-- The words of this crate's proofs, from where they stand.
pub use Rattle.list_laws.proofs.Std.{Bool, IfSome, List, None, Option, Some, [], ap, append_assoc, arith, cases_lt, cond, drop, drop-drop, enumerate_from, false, filter, filter_same, get_or, get_or_default, if◌then◌else◌, inl, inr, length, length-drop, length-take, map-append, min, nat_lt, nat_tests, option_or, range_with_len, refl, rules, same_Some, set, slice_get-get_or, subst, suc, sym, take, take-append-drop, take-append_seam, take-take, take_all, true, zero, ℕ, ◌++◌, ◌+◌, ◌-◌, ◌<◌, ◌^◌, ◌∙◌, ◌∷◌, ◌≡◌, ◌≤◌, ◌⊎◌, ltb-true, ltb-false, common_steps}
pub use Rattle.std.proofs.Common.{slice_get}
pub use Rattle.std.specs.Prelude.{map}
pub use Rattle.aggregator_rounds.specs.EntryParts.{IsCovered, blob_at, buffer_cell, bytes_of_post, got_cells, part_at, part_in, places_of, source_of}
pub use Rattle.aggregator_rounds.specs.Left.{BeginBefore, IsPast, entries_left, filter_past}
pub use Rattle.file_domains.proofs.CoverParts.{get_is}
pub use Rattle.list_laws.proofs.Common.{first_counts, neither_some, no_none_some, second_counts, some_or_none}
pub use Rattle.list_laws.proofs.Types.{DiskCall, Extent, Owned, Post}
pub use Rattle.nc_outside.specs.DiskState.{PartlyWritten}
pub use Rattle.nc_outside.specs.Told.{BothTold, after, with_end}
pub use Rattle.overlay_laws.proofs.Common.{AreFound, EndBelow, HasPlace, In, IsAscending, IsBegun, IsBetween, IsByPlace, Source, cell_of, cells_long, clip, clips, clips_in, entry_in, extents, flat_in, got_cell, in_either, in_extents, in_flat, in_left, in_range, in_right, kept_read, load_calls, moved_said, range_high, range_low, ranges, read_slice, said_joined, says_cases, says_left, says_right, store_calls, window_answer, within_lowered}
pub use Rattle.serial_spec.proofs.Common.{Cell, IsFrom, IsOneValued, IsWithin, Says, at, filter_in, length-written_inside, moved_down, read, read_long, said_append, said_at, said_below, said_by, said_inside, said_past, write_cells, written}
