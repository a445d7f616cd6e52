-- The words of this crate's proofs, from where they stand.
pub use Rattle.list_laws.proofs.Std.{AllZip, Err, IfErr, IfNone, IfSome, IsErr, IsErrOf, IsOk, List, None, Ok, OnOk, Option, Result, Some, [], and_from, ap, append-nil, append_assoc, arith, common_steps, drop, drop_all, ext_get_or, false, filter-append, flat_map, fold-append, get_or, get_or-set_other, get_or-set_same, get_or_default, inl, inr, length, length-drop, length-map, length-take, map, map-append, map-set_same, min, nat_tests, on_ok_weaker, refl, result_and, rules, same_Some, set, slice_get, slice_get-get_or, slice_get_within, subst, suc, sym, take, take_all, take_more, true, vec_capacity, zero, zip, ℕ, ◌&&◌, ◌++◌, ◌+◌, ◌-◌, ◌<◌, ◌==◌, ◌^◌, ◌∙◌, ◌∷◌, ◌≡◌, ◌≤◌, eqb_tells, eqb-true, eqb-false}
pub use Rattle.std.proofs.Common.{length-set}
pub use Rattle.std.proofs.Math.ListN.{get_or-map}
pub use Rattle.std.proofs.lemmas.List.{length-append}
pub use Rattle.std.specs.Prelude.{replicate}
pub use Rattle.aggregator_rounds.proofs.PastSteps.{all_left, past_extents, past_twice, walk_begin}
pub use Rattle.aggregator_rounds.proofs.ReadParts.{IsRead, buffer_cells, got_says, got_whole, parts_within, read_as, read_once, says_got, whole_parts}
pub use Rattle.aggregator_rounds.proofs.SplitSteps.{dropped_past, entry_ends, extents_left, extents_right, sorted_right}
pub use Rattle.aggregator_rounds.specs.EntryParts.{AreFilled, IsCovered, buffer_cell, got_cells, part_in, places_of}
pub use Rattle.aggregator_rounds.specs.Left.{IsPast, entries_left}
pub use Rattle.aggregator_rounds.specs.ToldWindows.{told_window}
pub use Rattle.exchange_crew.proofs.BackLaws.{AreComing, AreKept, IsLater, and_first_ok, came_back, coming_next, coming_none, coming_worker, err_not_ok, kept_all, lent_kept, zip_next}
pub use Rattle.exchange_crew.proofs.CrewLaws.{HaveServed, all_served, each_joined, IsHanding, handing_begun, handing_domain, handing_next, handing_room, have_served, some_served}
pub use Rattle.exchange_crew.proofs.DomainTurns.{domain_part, domain_turns, domain_windows}
pub use Rattle.exchange_crew.proofs.OneChanged.{fewer_all, set_each}
pub use Rattle.exchange_crew.proofs.PartsInTurn.{AreServedTo, all_kept, all_served_to, none_served, one_cut, one_failed, one_served}
pub use Rattle.exchange_crew.proofs.SplitLaws.{IsSplit, all_joined, domains_behind, failed_joined, left_behind, room_behind, zip_split}
pub use Rattle.exchange_crew.proofs.TurnLaws.{IsDue, at_begin, at_next, due_now, front_carried, in_served, left_ends, left_filled, left_sorted, served_ends, served_in, served_now, turn_limit}
pub use Rattle.exchange_crew.specs.Cursor.{AreInFront, AreServed, IsAt}
pub use Rattle.exchange_crew.specs.Handed.{domain_in}
pub use Rattle.exchange_crew.specs.Hulls.{AreTurns, LieOnPart}
pub use Rattle.exchange_crew.specs.Parts.{PartState, SomeZip, part_state}
pub use Rattle.exchange_crew.specs.Plan.{IsDomainOf}
pub use Rattle.exchange_crew.specs.Turns.{Told, turns_ahead, turns_of}
pub use Rattle.exchange_crew.specs.declared.plan.GetPlan.{GetPlan}
pub use Rattle.file_domains.specs.Rounds.{IsWalk}
pub use Rattle.file_domains.specs.declared.walk.Window.{Window}
pub use Rattle.file_domains.specs.declared.walk.WindowWalk.{WindowWalk}
pub use Rattle.get_exchange.specs.Blobs.{AreAsLong, FitTable, HasCollected, HasRead, HaveOnePlaces, blob_at, got_in_hull, of_request, with_blob}
pub use Rattle.get_exchange.specs.Fetched.{HasFetched}
pub use Rattle.get_exchange.specs.Gets.{AreRead, HasGot, IsGetPlan, IsGetPlanned, get_turns, reading_of}
pub use Rattle.get_exchange.specs.Lenders.{AreReady, IsReady, round_of}
pub use Rattle.get_exchange.specs.Logs.{HasCollectedLog, HasReadParts, HasReadTurn, HasReadTurns, HasTaken, HasTakenOf, HasTakenTurn, HaveTakenTurns, IsKept, IsReadOf, IsShelfIn, IsTakenOf, Log, log_cells, told_in}
pub use Rattle.get_exchange.specs.Shelves.{IsFresh, IsNextUp, IsShelfOf, IsStartedFor, domain_of, part_of, turns_due, turns_due_of}
pub use Rattle.get_exchange.specs.declared.buffers.Lender.{Lender}
pub use Rattle.get_exchange.specs.declared.handing.ReadWorker.{ReadWorker}
pub use Rattle.get_exchange.specs.declared.reading.Reading.{Reading}
pub use Rattle.get_exchange.specs.declared.reading.Reading.TheVariants.{Hull}
pub use Rattle.get_exchange.specs.declared.shelf.Shelf.{Shelf}
pub use Rattle.get_exchange.specs.declared.walk.ReadWalk.{ReadWalk}
pub use Rattle.list_laws.proofs.Common.{and_first, and_second, entry_below, entry_set, entry_set_other, equal_true, no_both, refilled, zip_weaker}
pub use Rattle.list_laws.proofs.Types.{Disk, DiskCall, Extent, Memory, Owned, StepErr}
pub use Rattle.nc_outside.proofs.ToldLaws.{with_end-nil, with_end-with_end}
pub use Rattle.nc_outside.specs.Cause.{Rose}
pub use Rattle.nc_outside.specs.Told.{with_end}
pub use Rattle.nc_outside.specs.declared.disk.Disk.{Ghosts as DiskGhosts}
pub use Rattle.overlay_laws.proofs.Common.{EndBelow, In, append_within, entry_in, extents, got_cell, in_either, in_extents, in_left, in_map, in_right, in_zip, load_calls, map_in, said_by_joined, said_in_any_order, same_said, says_cases, says_left, says_right, zip_in}
pub use Rattle.serial_spec.proofs.Common.{Cell, IsOneValued, IsWithin, Says, at, at_in, filter_in, in_at, in_filter, length-written_inside, read, read_at, read_long, read_same, said_at, said_by, write_cells, written}
