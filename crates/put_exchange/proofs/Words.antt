-- The words of this crate's proofs, from where they stand.
pub use Rattle.list_laws.proofs.Std.{AllZip, Bool, Err, IfSome, IsErr, IsErrOf, IsOk, List, None, Ok, OnOk, Option, Result, Some, Vec, [], and_from, and_parts, and_right, ap, append-nil, append_assoc, arith, common_steps, cond, drop, drop-append_seam, drop_all, enumerate_from, eqb-true, eqb_tells, false, filter, filter-append, flat_map, fold-append, get_or, inl, inr, le-ltb, length, length-drop, length-map, length-take, lt-ltb, ltb-false, ltb-true, map, map-append, min, nat_lt, nat_tests, range_with_len, refl, rules, same_Some, set, slice_get, slice_get-get_or, slice_get_within, subst, suc, sym, take, take-append_seam, take_more, true, vec_capacity, zero, ℕ, ◌&&◌, ◌++◌, ◌+◌, ◌-◌, ◌<◌, ◌==◌, ◌^◌, ◌∙◌, ◌∷◌, ◌≡◌, ◌≤◌, ◌⊎◌}
pub use Rattle.std.proofs.Common.{length-set}
pub use Rattle.std.proofs.lemmas.List.{length-append}
pub use Rattle.std.proofs.lemmas.List.Concat.{flat_map-append}
pub use Rattle.std.specs.declared.alloc.Global.{Global}
pub use Rattle.aggregator_rounds.proofs.EntryCells.{covered_place, entry_cells}
pub use Rattle.aggregator_rounds.proofs.PartSteps.{part_bytes, slot_in}
pub use Rattle.aggregator_rounds.proofs.PastSteps.{past_extents, past_none, past_same, past_sorted, past_twice}
pub use Rattle.aggregator_rounds.proofs.RoundLaws.{from_less, window_refused_by, window_told_by}
pub use Rattle.aggregator_rounds.proofs.SplitSteps.{entry_ends}
pub use Rattle.aggregator_rounds.specs.EntryParts.{IsCovered}
pub use Rattle.aggregator_rounds.specs.Left.{IsPast}
pub use Rattle.aggregator_rounds.specs.ToldWindows.{told_window}
pub use Rattle.exchange_crew.proofs.BackLaws.{AreComing, AreKept, IsLater, came_back, coming_next, coming_none, coming_worker, err_not_ok, kept_all, lent_kept}
pub use Rattle.exchange_crew.proofs.CrewLaws.{all_served, IsHanding, handing_begun, handing_domain, handing_next, handing_room, have_served, some_served}
pub use Rattle.exchange_crew.proofs.OneChanged.{fewer_all, set_each}
pub use Rattle.exchange_crew.proofs.PartsInTurn.{AreServedTo, all_kept, all_served_to, none_served, one_cut, one_failed, one_served}
pub use Rattle.exchange_crew.proofs.PlanLaws.{plan_on, plan_turns, plan_windows}
pub use Rattle.exchange_crew.proofs.SplitLaws.{all_joined, domains_behind, failed_joined, left_behind, room_behind}
pub use Rattle.exchange_crew.proofs.TurnLaws.{at_begin, at_next, turn_end, turn_in, due_now, in_served, served_are, served_covered, served_ends, served_in, served_now, turn_limit}
pub use Rattle.exchange_crew.specs.Cursor.{AreInFront, AreServed, IsAt}
pub use Rattle.exchange_crew.specs.Handed.{domain_in}
pub use Rattle.exchange_crew.specs.Hulls.{AreTurns, HaveWindows, IsTurn, LieOnPart}
pub use Rattle.exchange_crew.specs.Parts.{PartState, SomeZip, part_state}
pub use Rattle.exchange_crew.specs.Pieces.{ArePieces, meets, of_rank, pieces_in}
pub use Rattle.exchange_crew.specs.Plan.{IsDomainOf, IsPlan, planned_turns, source_in}
pub use Rattle.exchange_crew.specs.Turns.{IsTurnWalk, Told, puts_of_some, source_of, turns_ahead, turns_of}
pub use Rattle.exchange_crew.specs.declared.plan.PutPlan.{PutPlan}
pub use Rattle.exchange_crew.specs.declared.walk.TurnWalk.{TurnWalk}
pub use Rattle.file_domains.specs.declared.walk.Window.{Window}
pub use Rattle.list_laws.proofs.Common.{equal_true, middle_at, no_none_some}
pub use Rattle.list_laws.proofs.Types.{Batch, Disk, DiskCall, Extent, Job, Owned, Post, StepErr}
pub use Rattle.nc_outside.proofs.ToldLaws.{calls_more, told_as, with_end-nil}
pub use Rattle.nc_outside.specs.Cause.{Rose}
pub use Rattle.nc_outside.specs.Told.{BothTold, after, with_end}
pub use Rattle.nc_outside.specs.declared.disk.Disk.{Ghosts as DiskGhosts}
pub use Rattle.overlay_laws.proofs.Common.{AreFound, EndBelow, In, IsBetween, IsByPlace, IsPart, Source, between_next, cell_of, cells_long, clip, clips, clips_from, clips_in, clips_within, entry_in, extents, filter_none, flat_in, in_flat, in_left, in_map, in_range, in_right, map_in, moved_said, none_below, none_past, one_said, said_is, same_file, says_cases, says_left, says_right, store_calls, within_lowered, within_more}
pub use Rattle.put_exchange.specs.Dues.{AreDue, counts_due, turns_due}
pub use Rattle.put_exchange.specs.Feeds.{HasSent, HaveFed, number_of, rounds_in, sent_in}
pub use Rattle.put_exchange.specs.Helped.{HasServed, IsPlanOn}
pub use Rattle.put_exchange.specs.Put.{HasPut, put_part}
pub use Rattle.put_exchange.specs.Sent.{AreCuts, Sent, binned, bytes_of, cells_in, cells_of, cut_in, cuts_by, has_pieces, hull_of, message_counts, messages_in, messages_of, posts_of, sent, sent_by}
pub use Rattle.put_exchange.specs.Taken.{AreFor, Carry, HasLaid, HasPutTaken, HasTaken, IsFilledBy, pieces_in_all, put_window, turn_due}
pub use Rattle.put_exchange.specs.Workers.{HasFed, IsFed, IsFresh, IsStartedFor, domain_of, part_of}
pub use Rattle.put_exchange.specs.declared.handing.Worker.{Worker}
pub use Rattle.put_exchange.specs.declared.laying.Due.{Due}
pub use Rattle.put_exchange.specs.declared.message.Cut.{Cut}
pub use Rattle.put_exchange.specs.declared.packing.Round.{Round}
pub use Rattle.put_exchange.specs.declared.sending.Feed.{Feed}
pub use Rattle.serial_spec.proofs.Common.{Cell, IsFrom, IsOneValued, IsWithin, Says, at, at_in, byte_or, cells_said, filter_in, in_filter, moved_down, said_at, said_by, write_cells, written}
