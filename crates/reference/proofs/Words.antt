-- The words of this crate's proofs, from where they stand.
pub use Rattle.list_laws.proofs.Std.{AllByRecursion, Bool, IfOk-weaker, IfSome, IsSomeAnd, List, None, Option, Some, [], add-one, ap, append_assoc, append_cancel_left, arith, cases_eq, cases_lt, common_steps, cond, drop, drop-drop, drop_all, drop_more, enumerate_from, false, filter-append, flat_map, fold_more, get_or, get_or_from_slice_get, inl, inr, length, length-append, list_any, map, map-append, map-range_with_len_more, map-set, max, min, mul-le, nat_lt, nat_tests, on_ok_weaker, range_with_len, refl, rules, same_Some, set, slice_get, slice_get-get_or, slice_get-map, slice_get_read, slice_get_within, subst, suc, sym, take, take-append-drop, take_all, take_more, take_rest, true, with_items_is, zero, zip, ℕ, ◌%◌, ◌*◌, ◌++◌, ◌+◌, ◌-◌, ◌/◌, ◌<◌, ◌^◌, ◌∙◌, ◌∷◌, ◌≡◌, ◌≢◌, ◌≤◌, ◌⊎◌}
pub use Rattle.std.proofs.Common.{append-nil, filter, fold, length-set}
pub use Rattle.join_laws.proofs.CountLaws.{less_max, sound_small}
pub use Rattle.join_laws.proofs.RankLaws.{said_at}
pub use Rattle.join_laws.proofs.ReplyLaws.{meeting_fits, solo_fits}
pub use Rattle.join_laws.proofs.StepLaws.{meeting_within, replied, replies_long}
pub use Rattle.list_laws.proofs.Common.{drop_at, each_more, each_weaker, entry_below, entry_read, entry_set, entry_set_other, equal_itself, first_same, get_left, get_right, if_some_at, left_more, map_map, take_next}
pub use Rattle.list_laws.proofs.Types.{Answer, Call, Header, Mark, Offer, Pair, Post, Region, Reply, Script, Var, Want}
pub use Rattle.overlay_laws.proofs.Common.{in_either, map_in, read_in}
pub use Rattle.rank_core.proofs.StepLaws.{ok_both}
pub use Rattle.rank_core.specs.Offered.{IsSoundOffer, IsSoundWant}
pub use Rattle.reference.specs.Ended.{AreLow, as_end, most_known}
pub use Rattle.reference.specs.Least.{least_with, lesser_of}
pub use Rattle.reference.specs.Requests.{AreBelow, IsPut, IsRight, counted, reply_to, setting}
pub use Rattle.reference.specs.Running.{HasGone, IsAsked, IsPlaced, IsRunner, IsWaiting, MayGoOn, arrived, going_of}
pub use Rattle.reference.specs.Stands.{AllHear, AreWaiting, DoFit, HasHeard, HaveHeard, Heard, HeardOne, IsStanding, all_arrived, stand_of}
pub use Rattle.reference.specs.declared.runners.Runner.{Runner}
pub use Rattle.reference.specs.declared.stand.Stand.{Stand}
pub use Rattle.run_laws.proofs.ArrivalLaws.{serial_of_arrivals}
pub use Rattle.run_laws.proofs.CallLaws.{alone_keeps, hears_keeps, meets_keeps, solo_keeps}
pub use Rattle.run_laws.proofs.LawfulLaws.{ranks_lawful}
pub use Rattle.run_laws.proofs.StandingLaws.{comes_on, comes_to_end, comes_to_meeting, comes_to_solo}
pub use Rattle.run_laws.proofs.TogetherLaws.{call_lawful, call_share}
pub use Rattle.run_laws.proofs.WayLaws.{way_answers, way_begins, way_beside, way_hears, way_meets, way_solo}
pub use Rattle.run_laws.specs.Ahead.{answered, asking}
pub use Rattle.run_laws.specs.Arrivals.{Arrived, first_stand, heard, step_to}
pub use Rattle.run_laws.specs.Requests.{posts_held}
pub use Rattle.run_laws.specs.Ways.{AsksAlone, IsOnWay, marks_left, meetings}
pub use Rattle.serial_spec.proofs.Common.{Counted, DoesFit, Going, HasRecord, Holding, In, IsElement, IsIndex, IsLegal, Key, Puts, Setting, advance, after_puts, all_bytes, at, at_in, cells, check_some, close_by, concerns, distinct, end_of, first_going, get, get_post, greatest, has_byte, header_len, hear, hears, holders, holdings, index_at, index_fixed, index_record, inner_lengths, is_lawful, is_lawful_call, is_record, is_shared, is_sound, known_by, known_less, least, lesser_key, longer, longer-enough, marks, meeting, most_parts, needed, needed_by, needs, offers_of, place, places, product, put, put_post, puts_of, read, record_limit, record_of, records_of, records_of_some, recsize, row, same_key, serial_from, setting_of, size_of, solo, some_limit, told, wanted, with_records, within_record, write_cells, written}
pub use Rattle.var_layout.proofs.ElementPlaces.{place_fixed, place_record, product_pos, row_below_bytes, sound_end}
pub use Rattle.vara_extents.proofs.AcceptedLaws.{passed, records_below}
pub use Rattle.vara_extents.proofs.NumberLaws.{length-places, place_at}
pub use Rattle.vara_extents.proofs.PlaceLaws.{accepted_place, small_of, wide_records}
pub use Rattle.vara_extents.proofs.RowSteps.{rest, split}
pub use Rattle.vara_extents.specs.Accepted.{IsAccepted}
pub use Rattle.vara_extents.specs.Numbered.{coordinates_of, index_of}
