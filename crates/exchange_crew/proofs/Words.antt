-- The words of this crate's proofs, from where they stand.
pub use Rattle.list_laws.proofs.Std.{AllZip, Bool, Err, ForSome, IfErr, IfNone, IfOk, IfSome, IsErr, IsErrOf, IsOk, List, None, Ok, OnOk, Option, Result, Some, Vec, [], all_zipped_more, ap, append-nil, append_assoc, arith, common_steps, drop, drop-append_seam, eqb-true, false, flat_map, flat_map-map, get_or, inl, is_some, inr, le-leb, leb-true, length, length-map, lt-ltb, ltb-false, ltb-true, map, map-append, min, leb_tells, nat_lt, nat_tests, not, range_with_len, refl, result_and, rules, same_Some, set, slice_get, slice_get_within, subst, suc, sym, take, take-append_seam, take_all, take_more, true, vec_capacity, zero, zip, ℕ, ◌++◌, ◌+◌, ◌-◌, ◌/◌, ◌<◌, ◌==◌, ◌^◌, ◌∙◌, ◌∷◌, ◌≡◌, ◌≤◌, ◌⊎◌, length-drop, take_rest}
pub use Rattle.std.proofs.Common.{length-set}
pub use Rattle.std.specs.declared.alloc.Global.{Global}
pub use Rattle.std.proofs.lemmas.List.{length-append}
pub use Rattle.aggregator_rounds.proofs.CoveredBytes.{hole_short, in_ranges, ranges_in}
pub use Rattle.aggregator_rounds.proofs.PastSteps.{past_extents, past_in, past_kept, past_later, past_none, past_sorted, past_twice}
pub use Rattle.aggregator_rounds.proofs.SplitSteps.{dropped_past, extents_dropped, sorted_dropped, taken_before}
pub use Rattle.aggregator_rounds.specs.EntryParts.{AreFilled, IsCovered}
pub use Rattle.aggregator_rounds.specs.Left.{BeginBefore, IsPast}
pub use Rattle.aggregator_rounds.specs.ToldWindows.{told_window}
pub use Rattle.exchange_crew.specs.Cursor.{AreInFront, AreServed, IsAt}
pub use Rattle.exchange_crew.specs.Handed.{AreFirst, AreHanded, HasAdded, IsGiven, IsNext}
pub use Rattle.exchange_crew.specs.Hulls.{AreTurns, HaveWindows, IsTurn, LieOnPart}
pub use Rattle.exchange_crew.specs.Parts.{SomeZip}
pub use Rattle.exchange_crew.specs.Pieces.{ArePieces}
pub use Rattle.exchange_crew.specs.Plan.{HaveDomains, IsDomainOf, IsPlan}
pub use Rattle.exchange_crew.specs.Rooms.{HasRoom, HasRooms}
pub use Rattle.exchange_crew.specs.Rounds.{HasRound}
pub use Rattle.exchange_crew.specs.Turns.{Told, turns_ahead, turns_of}
pub use Rattle.exchange_crew.specs.declared.plan.Aggregator.{Aggregator}
pub use Rattle.exchange_crew.specs.declared.shares.Served.{Served}
pub use Rattle.exchange_crew.specs.declared.shares.Shares.{Shares}
pub use Rattle.file_domains.specs.Domains.{LiesIn}
pub use Rattle.file_domains.specs.Rounds.{IsWalk, bytes_in, round_windows, window_told}
pub use Rattle.file_domains.specs.declared.walk.Window.{Window}
pub use Rattle.list_laws.proofs.Common.{some_or_none, each_more, entry_below, entry_set, entry_set_other, equal_true, left_more, middle_at, no_both, refilled, take_next, zip_weaker}
pub use Rattle.nc_outside.specs.declared.disk.Disk.{Ghosts as DiskGhosts}
pub use Rattle.list_laws.proofs.Types.{Batch, Disk, Extent, Owned, StepErr}
pub use Rattle.overlay_laws.proofs.Common.{EndBelow, HaveSame, In, IsAscending, IsByPlace, IsCover, Source, any_in, div_grows, extents, filter_ascends, first_least, flat_in, in_any, in_either, in_extents, in_flat, in_left, in_map, in_range, in_right, joined, last_most, map_in, range_low, ranges, same_ascending, share, spans_ascend, told_of, window_short, windows_have}
pub use Rattle.serial_spec.proofs.Common.{at_in, filter_in, first_of, hull_len, in_at, in_filter, is_empty, last_of, not_empty, spans, windows}
