-- The words of this crate's proofs, from where they stand.
pub use Rattle.list_laws.proofs.Std.{Bool, List, None, Option, Some, [], and-false, and_from, ap, append-nil, append_assoc, arith, bytes_eq-Decides, cond, cons_option, enumerate_from, eq-eqb, eqb-true, eqb_tells, false, filter, filter-append, filter_map-append, flat_map, fold, inl, inr, is_some, le-ltb, length, length-enumerate_from, length-map, length-range_with_len, length-replicate, length-set, length-zip, list_all, list_all-append, list_any, list_any-append, lt-ltb, ltb, ltb-false, map, map-append, max, nat_le, nat_lt, nat_tests, ne_eqb, not, option_map, or_from, or_parts, range_with_len, refl, replicate, same_Some, set, slice_get, slice_get-map, slice_get_within, subst, suc, sum_by-cons, sym, true, zero, zip, ℕ, ◌&&◌, ◌*◌, ◌++◌, ◌+◌, ◌-◌, ◌<◌, ◌==◌, ◌^◌, ◌||◌, ◌∙◌, ◌∷◌, ◌≡◌, ◌≤◌, ◌⊎◌, ltb-true, common_steps}
pub use Rattle.std.proofs.lemmas.List.{length-append}
pub use Rattle.std.specs.Prelude.{bytes_eq, pos, take, ℤ}
pub use Rattle.fill_records.proofs.CutLaws.{boxes_few}
pub use Rattle.join_laws.specs.Alike.{AllBeside, AreAlike, AreAlikeEnds, AreBeside, AreNear, IsLike, TellAlike, blank, blank_item, blank_values}
pub use Rattle.join_laws.specs.Begun.{HasOffered, IsBeginning}
pub use Rattle.join_laws.specs.Worked.{two_arrivals, two_ranks}
pub use Rattle.list_laws.proofs.Common.{all_joined, and_first, and_second, any_or_none, both_none, entry_below, entry_beside, entry_map, entry_replicate, entry_set, entry_set_other, entry_zip, equal_itself, filter_at_most, le_two, mapped_entry, none_any, none_of_test, not_some, or_first_false, or_second_false, passes_at, same_le, some_or_none, untold, value_of_some}
pub use Rattle.list_laws.proofs.Types.{Answer, Answered, Batch, Bits, Bput, Call, Choice, Code, Direction, Done, Given, Header, Iget, Iput, Item, Mark, Meet, MeetKind, Misfit, NcType, Numbers, Offer, OfferKind, OwnerItem, Pair, Part, Post, PostKind, RankItem, RankStop, Region, Script, Solo, Stop, Text, Value, Values, Var, Want, count_of}
pub use Rattle.nc_base.specs.declared.step.OwnerItem.TheVariants.{Reply}
pub use Rattle.overlay_laws.proofs.Common.{In, each_in}
pub use Rattle.rank_core.proofs.FillLaws.{record_outcome, share_grows, share_within}
pub use Rattle.rank_core.proofs.FillLookLaws.{box_accepted, box_bytes_long, few_dims}
pub use Rattle.rank_core.proofs.FillPostLaws.{FitsPart, boxes_fit, boxes_small}
pub use Rattle.rank_core.proofs.KnownLaws.{check_more}
pub use Rattle.rank_core.proofs.LookLaws.{PartsPass, length-part_posts, parts_pass, put_right}
pub use Rattle.rank_core.proofs.OutcomeLaws.{outcome, outcome_posts}
pub use Rattle.rank_core.proofs.RequestLaws.{gone_where}
pub use Rattle.rank_core.proofs.StepLaws.{call_few}
pub use Rattle.rank_core.proofs.ValueLaws.{length-packed_bytes, length-values_bytes}
pub use Rattle.rank_core.specs.Offered.{IsPut}
pub use Rattle.rank_core.specs.Stepped.{most_of, most_posts}
pub use Rattle.rank_core.specs.Targets.{IsSmall}
pub use Rattle.run_laws.proofs.ArrivalLaws.{arrival_steps, first_up, gone_up, serial_of_arrivals}
pub use Rattle.run_laws.proofs.CallLaws.{Says, step_says}
pub use Rattle.run_laws.proofs.LawfulLaws.{get_enumerate, own_lawful, ranks_lawful}
pub use Rattle.run_laws.proofs.StandingLaws.{solo_goes}
pub use Rattle.run_laws.proofs.WayLaws.{kinds_skip, kinds_take, marks_alone, marks_meet, marks_solo, mode_alone, others_filter}
pub use Rattle.run_laws.specs.Ahead.{is_solo_of}
pub use Rattle.run_laws.specs.Arrivals.{Arrived, Stand, ended_from, first_stand, heard, solo_to, step_to}
pub use Rattle.run_laws.specs.Ways.{kinds_of, meetings}
pub use Rattle.serial_spec.proofs.Common.{Arrival, Class, Client, Counted, DoesFit, End, Event, Going, Gone, HasEnd, IsAgreed, IsJoined, IsLegal, IsTied, Look, OnlyReplies, Open, Owner, Posted, Puts, Rank, Setting, Side, Status, Waiting, advance, after_mark, after_meeting, all_met, at_item, at_offer, back_of, batch_chosen, batch_of, box_post, box_region, boxes, check_parts, check_some, check_var, chosen, close_by, closed, code_in, concerns, coordinates, count_after, data_bytes, data_code, dataset_a, differs, direction_of, does_meeting, does_solo, done, done_after, elements, elements_of_all, end_by, ends_by, event_at, fill_bytes, fills, filter_in, find_var, first_going, first_owner, first_state, fits_offer, free_client, freed, gathered, get_post, get_some, gets_in, given_along, go, got_values, greatest, greatest_joined, has_element, has_ended, has_held, has_left, hear_open, hears, holds, index_at, inner_lengths, is_chosen, is_collective, is_data, is_lawful, is_lawful_call, is_meeting, is_of_rank_below, is_offer, is_ok_code, is_record, is_record_past, is_sound, is_varn, keeps, kind_at, kind_held, kind_of_call, kind_of_meeting, kinds, known_by, left_behind, left_by, length-coordinates, length_of, lengths, look, look_at, look_fill, look_parts, look_record, look_region, mark_of, marks, marks_from, meeting, meeting_kind, meetings_of, meets_if, mode_after, most_calls, most_elements, most_parts, named, needed, needed_now, needs, no_posts, number_in, offer_of, offered, offered_by, offers_held, offers_in, offers_of, opening_owner, owed, own_items, part_posts, part_region, part_regions, parts_code, pending, place, places, post_after, posts, product, puts_in, puts_of, raised, raises, rank_end, rank_ends, rank_stop, read, record_limit, records_of_some, refused, run_of, same_kind, serial_from, served, setting_of, share_begin, side, side_by, size_of, solo, solo_of, some_limit, some_rank, some_true, spread, state_after, step, stop_by, stop_held, stops, to_each, to_one, told, told_of, values_bytes, values_for, waiting, waiting_end, waiting_side, waiting_stop, wanted, widen, with_its_values, with_more, with_posted, without_chosen, without_record, wrong_length}
unfoldable pub use Rattle.serial_spec.proofs.Common.{canon, event, is_strange, strange_offer}
pub use Rattle.vara_extents.proofs.AcceptedLaws.{passed, records_below}
