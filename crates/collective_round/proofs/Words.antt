-- The words of this crate's proofs, from where they stand.
pub use Rattle.list_laws.proofs.Std.{AllZip, Bool, Err, IfSome, IsErrOf, IsPermutation, List, None, Ok, OnOk, Option, Result, Some, Vec, [], and_from, and_parts, ap, append-nil, append_assoc, arith, byte_len, cases_lt, common_steps, cond, drop, drop-take, drop_more, enumerate_from, ext_get_or, false, filter, flat_map, flat_map-append, flat_map-map, flat_map_more, get_or, get_or-append_right, get_or_append_left, get_or_past, inl, inr, is_none, le-leb, leb-true, length, length-append, length-map, length-range_with_len, length-replicate, length-take, length_push, list_any, lt-leb, lt-ltb, map, map-append, max, min, mul-le, mul_comm, nat_le, nat_lt, nat_tests, on_err_weaker, on_ok_weaker, option_copied, option_map, or_right, range_with_len, refl, reverse, reverse-append, rules, same_Some, slice_get, slice_get_within, slice_index_or, subst, suc, sym, take, take-append-drop, take-take, take_all, take_more, true, vec_capacity, w32, w64, zero, zip, ℕ, ◌%◌, ◌&&◌, ◌*◌, ◌++◌, ◌+◌, ◌-◌, ◌/◌, ◌<◌, ◌==◌, ◌^◌, ◌||◌, ◌↔◌, ◌∙◌, ◌∷◌, ◌≡◌, ◌≤◌, ◌⊎◌, ltb-true, eqb-true, ltb-false}
pub use Rattle.std.proofs.Math.ListN.{get_or-map}
pub use Rattle.std.specs.Prelude.{not}
pub use Rattle.std.specs.declared.alloc.Global.{Global}
pub use Rattle.aggregator_rounds.proofs.CoveredBytes.{in_ranges}
pub use Rattle.aggregator_rounds.proofs.EntryCells.{entries_from, entries_within}
pub use Rattle.aggregator_rounds.proofs.ReadParts.{got_whole}
pub use Rattle.aggregator_rounds.proofs.SplitSteps.{ends_more, entry_ends, first_begins, no_entry}
pub use Rattle.aggregator_rounds.specs.EntryParts.{AreFilled, IsCovered, bytes_of_post, places_of}
pub use Rattle.collective_round.specs.Blobs.{blobs_for}
pub use Rattle.collective_round.specs.Gathered.{AreAccepted, entries_of, entries_of_all, entries_of_posts, entries_of_some, owned_from, posts_of}
pub use Rattle.collective_round.specs.Laid.{AreGot, AreLaid, AreSorted, IsGotBy, source_of}
pub use Rattle.collective_round.specs.Listed.{IsListOf}
pub use Rattle.collective_round.specs.Parts.{Adjoin, AreDomains, AreOn, AreSplit, Follow, IsDivision, IsFront, IsSplit, begin_or, part_between, parts_of, with_part, with_parts}
pub use Rattle.collective_round.specs.Rounds.{AreGets, ArePuts, IsPut, after_round, as_setting, counted, gets_in, posts_in, puts_in, puts_of_batch, setting}
pub use Rattle.collective_round.specs.declared.rounds.Division.{Division}
pub use Rattle.collective_round.specs.declared.entries.PutList.{PutList}
pub use Rattle.collective_round.specs.declared.entries.PutList.TheVariants.{Laid, Shared}
pub use Rattle.data_sieving.specs.Sieving.{FitBlobs, HaveOnePlace, LieOn, entry_windows, of_slot, put_cells}
pub use Rattle.exchange_crew.specs.Parts.{PartState, SomeZip, part_state}
pub use Rattle.exchange_crew.specs.Pieces.{ArePieces}
pub use Rattle.exchange_crew.specs.Plan.{IsDomainOf, IsPlan, planned_turns, source_in}
pub use Rattle.exchange_crew.specs.Turns.{Told, turns_of}
pub use Rattle.file_domains.proofs.CoverParts.{get_is, long_enough}
pub use Rattle.file_domains.specs.Domains.{LiesIn, border, low_of, share_of}
pub use Rattle.file_domains.specs.Rounds.{bytes_in}
pub use Rattle.get_exchange.proofs.CollectLaws.{in_request}
pub use Rattle.get_exchange.specs.Blobs.{AreAsLong, FitTable, HasRead, HaveOnePlaces, blob_at, of_request}
pub use Rattle.get_exchange.specs.Gets.{HasGot, IsGetPlan, get_turns}
pub use Rattle.list_laws.proofs.Common.{and_first, and_second, both_none, entry_below, entry_map, entry_numbered, entry_read, equal_true, if_some_at, map_map, neither_some, next_numbered, no_false, no_none_some, none_of_test, on_err, or_first_false, or_second_false, range_append, range_first, range_rest, spans_long, told_unless, zip_weaker}
pub use Rattle.list_laws.proofs.Types.{Batch, Direction, Disk, DiskCall, Extent, Get, Header, Hints, OverlapRule, Owned, Pair, Post, Put, Refuse, Region, Serial, StepErr, Var}
pub use Rattle.nc_outside.proofs.ToldLaws.{told_as, with_end-nil}
pub use Rattle.nc_outside.specs.Cause.{HasDiskCause, Rose, both_faults}
pub use Rattle.nc_outside.specs.DiskState.{PartlyWritten}
pub use Rattle.nc_outside.specs.Told.{BothTold, after, joined, with_end}
pub use Rattle.overlap_report.proofs.OriginSteps.{of_says, origin_at, says_of}
pub use Rattle.overlap_report.specs.Parts.{IsPartOfOne}
pub use Rattle.overlay_laws.proofs.Common.{AreFound, AreHints, AreOf, AtMost, EndBelow, HaveSame, In, IsBetween, IsByPlace, IsCover, IsGathered, IsInLine, IsInOrder, IsOnceEach, IsResolved, IsRun, IsRunFrom, Origin, Source, any_in, byte_at, ceil_covers, cell_of, cells_by_origins, cells_long, cells_of_puts, clips, clips_from, clips_in, clips_within, cover_in_order, each_in, end_after, entries_pair, enumerate_joined, extents, filter_all, filter_none, filter_same, filter_two, first_at, first_least, flat_in, gathered_says, get_collected, got_cell, greatest_once, hull_told, in_either, in_flat, in_in_order, in_left, in_map, in_order_ascends, in_order_in, in_range, in_right, last_most, list_says, load_calls, map_in, moved_said, no_pair_once, none_below, numbered_from, origins, origins_moved, puts_room, range_high, range_low, ranges, read_in, read_slice, resolved_says, said_is, said_mapped, same_ascending, same_file, same_permuted, same_said, says_cases, says_moved, says_place, says_some, spans_ascend, store_calls, told_of, windows_walked, within_lowered}
pub use Rattle.put_exchange.specs.Put.{HasPut, put_part}
pub use Rattle.serial_spec.proofs.Common.{Cell, IsElementBelow, IsFrom, IsOneValued, IsOwnOnce, IsTorn, IsWithin, Puts, Says, Setting, accepted_elements, after_grows, after_keeps, after_long, after_puts, all_ones, are_lawful_hints, at, at-longer, at-written_after, at-written_before, at_in, bad_id, byte_or, bytes_of, bytes_of_some, cells, cells_said, check_some, collective_windows, count, count_width, counts_are_small, covered, domain_size, domains, elements, elements_past_header, end_for, end_grows, end_of, end_of_var, fault_if, file_limit, filter_in, first_check, first_of, first_with, get_bytes, get_post, greatest, greatest_joined, grow_to, header_len, holdings, holdings_of_entries, in_at, in_filter, in_order, is_empty, is_record, is_sound, is_too_large, is_version, keeps_bound, last_of, last_share, list_of, loads, longer, longer_long, measure, moved_down, needed, needed_by, needed_now, needs, not_empty, overlays, past_bound, place, places, post_inside, product, put_calls, puts_are_cells, puts_say, raised_file, raised_grows, read, record_later, record_limit, record_share, records_of, records_of_some, recsize, said_at, said_by, said_by_puts, share, shared_pair, shared_pair_of, sharing, sharing_from, sharing_with, sieved, sieving_windows, size_most, size_of, size_pos, some_limit, spans, store_records, told, told_under, two_record_dims, vsize, wanted, windows, with_records, within_is, write_cells, written_grows}
pub use Rattle.var_layout.proofs.ElementPlaces.{sound_end}
pub use Rattle.var_layout.proofs.Soundness.{measured}
pub use Rattle.var_layout.proofs.WrittenLengths.{canon_len}
pub use Rattle.vara_extents.proofs.AcceptedLaws.{passed, records_below}
pub use Rattle.vara_extents.proofs.JoinLaws.{AreSome, EndBy}
pub use Rattle.vara_extents.proofs.NumberLaws.{length-places}
pub use Rattle.vara_extents.proofs.OnceLaws.{post_once, spans_are}
pub use Rattle.vara_extents.proofs.PlaceLaws.{extents_inside, extents_some, small_of}
pub use Rattle.vara_extents.proofs.WriteLaws.{bytes_are, bytes_in_joined}
pub use Rattle.vara_extents.specs.Accepted.{IsAccepted}
pub use Rattle.vara_extents.specs.Joined.{element_extents, extents_of}
pub use Rattle.vara_extents.specs.Left.{extents_left}
pub use Rattle.vara_extents.specs.declared.walk.Extents.{Extents}
