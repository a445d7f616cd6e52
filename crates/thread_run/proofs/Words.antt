-- The words of this crate's proofs, from where they stand.
pub use Rattle.list_laws.proofs.Std.{All, All-get_or, All-push, Bool, Err, IfSome, IsTrue, List, None, Ok, Option, Result, Some, [], ap, append-nil, append_assoc, append_cancel_left, arith, byte_len, bytes_eq-Decides, drop, enumerate_from, eqb_tells, false, filter, filter-append, flat_map, fold, get_or, get_or_from_slice_get, inl, inr, is_err, is_some, length, length-append, length-map, length-replicate, length-set, length-take-le, list_all, list_all-append, ltb-false, map, map-append, max, nat_lt, nat_tests, of_calls, or_from, range_with_len, refl, replicate, rules, same_Some, set, slice_get, slice_get-get_or, slice_get_within, subst, suc, sym, take, take-append-drop, true, vec_capacity, with_items_is, zero, ℕ, ◌++◌, ◌+◌, ◌-◌, ◌<◌, ◌^◌, ◌∙◌, ◌∷◌, ◌≡◌, ◌≤◌, ◌⊎◌, ltb-true}
pub use Rattle.std.proofs.lemmas.List.{map-id, nil_from_length}
pub use Rattle.std.proofs.Math.Nat.{lt_of_le_of_lt, max-le}
pub use Rattle.collective_round.proofs.CountedLaws.{put_needed}
pub use Rattle.collective_round.proofs.TornFiles.{torn_still}
pub use Rattle.collective_round.specs.Rounds.{as_setting, counted}
pub use Rattle.file_owner.proofs.AlikeLaws.{alike_long, alike_take}
pub use Rattle.file_owner.proofs.OwnerRuns.{calls_on, goes_on, stops_at, told_on, told_stop}
pub use Rattle.file_owner.specs.Owned.{AreSingle, IsSingle, IsSingleOffer, calls_at, calls_if, each_told, event_calls, owner_calls, owner_told}
pub use Rattle.file_owner.specs.Refused.{HasCutService}
pub use Rattle.file_owner.specs.Service.{HasFailed, HasTaken, HasToldAlong, HavePut, IsDone, IsDoneSo, arrived, gained, opening, passed}
pub use Rattle.join_laws.proofs.AlikeLaws.{end_alike, offered_alike}
pub use Rattle.join_laws.proofs.BegunLaws.{begun_each, begun_known}
pub use Rattle.join_laws.proofs.ClientTurns.{Lasting, client_ended, client_held}
pub use Rattle.join_laws.proofs.Completing.{completed, completed_by}
pub use Rattle.join_laws.proofs.CountLaws.{IsKept, bad_put, less_max, meeting_kept, meeting_small, passes_accepted, solo_kept, solo_small, sound_small}
pub use Rattle.join_laws.proofs.EventLaws.{get_set, own_here, own_other, to_one_here, to_one_other}
pub use Rattle.join_laws.proofs.GoingOnLaws.{given_on}
pub use Rattle.join_laws.proofs.GoodLaws.{Good, good_first, lasting}
pub use Rattle.join_laws.proofs.JoinLaws.{Joins, Stands, along, fold_two, join, owed_stop, served_on, stranger_on}
pub use Rattle.join_laws.proofs.QuietLaws.{quiet_step}
pub use Rattle.join_laws.proofs.ReplyLaws.{fit_passes, meeting_fits, solo_fits}
pub use Rattle.join_laws.proofs.StepLaws.{going_after, goings_after, goings_long, meeting_is, meeting_within, offer_at, offers_long, replied, same_offers, solo_of_is, solo_within}
pub use Rattle.join_laws.proofs.StrangeLaws.{event_is, strange_alone}
pub use Rattle.join_laws.proofs.StreamLaws.{client_end, closes, ends_once, to_come, waiting_end_misfit, waiting_end_reply, waiting_misfit, waiting_reply, waiting_stop_misfit, waiting_stop_reply}
pub use Rattle.join_laws.proofs.TieLaws.{long_whole, one_held, one_if, tied_each, tied_joins}
pub use Rattle.join_laws.proofs.TurnLaws.{by_event}
pub use Rattle.join_laws.proofs.WholeLaws.{lawful_agrees, whole_run}
pub use Rattle.join_laws.specs.Alike.{AreAlike, AreNear, blank}
pub use Rattle.join_laws.specs.Begun.{HasOffered, IsBeginning}
pub use Rattle.list_laws.proofs.Common.{and_first, and_second, each_more, entry_below, entry_beside, entry_replicate, entry_set, entry_set_other, first_of, front_or_all, holds_or_not, if_some_at, le_two, left_more, long_push, map_map, mapped_entry, middle_at, or_first_false, or_second_false, passes_at, passes_each, prefix_long, rows_same, same_le, some_or_none}
pub use Rattle.list_laws.proofs.Types.{Answer, Call, Direction, DiskCall, Header, Hints, Mark, Meet, MeetKind, Offer, OfferKind, OwnerItem, Post, RankEnd, RankItem, RankStop, Region, RunEnd, Script, ServeEnd, Solo, StepErr, Stop, Var}
pub use Rattle.nc_base.specs.declared.memory.Memory.{Memory}
pub use Rattle.nc_base.specs.declared.step.OwnerItem.TheVariants.{Reply}
pub use Rattle.nc_outside.proofs.ToldLaws.{rose_before, with_end-with_end}
pub use Rattle.nc_outside.specs.Cause.{Rose}
pub use Rattle.nc_outside.specs.Told.{BothTold, after, with_end}
pub use Rattle.overlay_laws.proofs.Common.{In, each_in, in_either, in_left}
pub use Rattle.rank_core.specs.Fit.{fits_gets}
pub use Rattle.rank_core.specs.Offered.{IsSoundOffer}
pub use Rattle.rank_items.proofs.OwnLaws.{own_elements}
pub use Rattle.rank_items.specs.Own.{HasOwnElements}
pub use Rattle.ruled_line.specs.Ends.{End, Line, Receiver, items_under}
pub use Rattle.run_laws.proofs.CallLaws.{Keeps}
pub use Rattle.run_laws.proofs.LawfulLaws.{ranks_lawful}
pub use Rattle.run_laws.proofs.OrderLaws.{calls_close, calls_more}
pub use Rattle.run_laws.proofs.StandingLaws.{solo_goes}
pub use Rattle.run_laws.proofs.TogetherLaws.{call_number, call_waits}
pub use Rattle.run_laws.proofs.WayLaws.{way_begins, way_hears}
pub use Rattle.run_laws.specs.Ahead.{calls_so_far}
pub use Rattle.run_laws.specs.Ways.{IsOnWay, meetings}
pub use Rattle.serial_spec.proofs.Common.{Arrival, Begins, Client, Counted, Event, Going, HasAnswers, HasEnd, IsAgreed, IsCutRun, IsJoined, IsLeft, IsLegal, IsTied, IsTorn, Open, Owner, OwnerStoodAt, Rank, Setting, StoodAt, advance, after_mark, at_arrival, at_in, at_item, back_of, between_arrivals, bytes_of_mark, check_some, count_width, covered, does_meeting, does_solo, end_by, end_grows, end_of, first_going, first_state, fits_offer, free_client, freed, given_along, go, greatest, header_len, hear, hears, holds, in_close, in_step, is_lawful, is_offer, is_sound, keeps, lawful_hints, mark_grows, meeting, meeting_calls, meets_if, most_calls, needed, needed_now, offered, offered_by, offers_at, offers_held, offers_in, offers_of, opening_owner, owed, own_items, puts_of, raised, raised_grows, raised_records, rank_end, rank_ends, record_limit, refused, run_calls, run_of, serial_from, served, setting_of, solo, state_after, step_offers, stops, store_records, to_each, told_of, waiting, waiting_end, waiting_stop, wanted}
pub use Rattle.serial_spec.specs.Joined.{close_by}
unfoldable pub use Rattle.serial_spec.proofs.Common.{event, is_strange, strange_offer}
pub use Rattle.thread_run.specs.RankHandle.{AreOf, AreRankHandles, AreSettled, IsOf, IsRankHandle, IsSettled, IsSettledOf, IsToldToGo}
pub use Rattle.thread_run.specs.RankSides.{HasAttended, HasFinished, HasStood, IsAccounted, IsBroken}
pub use Rattle.thread_run.specs.declared.rank_handle.RankHandle.{RankHandle}
pub use Rattle.thread_run.specs.declared.rank_handle.Word.{Word}
pub use Rattle.thread_run.specs.declared.rank_handle.Word.TheVariants.{Go}
pub use Rattle.thread_run.specs.Threads.{HasRooms}
pub use Rattle.turn_run.proofs.AloneLaws.{alone_waits, fits_open, going_free, going_held}
pub use Rattle.turn_run.proofs.CutMeet.{torn_same}
pub use Rattle.turn_run.proofs.CutRuns.{cut_rows, no_answers, stood_as}
pub use Rattle.turn_run.proofs.EndedLaws.{Closing, EndOfCut}
pub use Rattle.turn_run.proofs.RunnerLaws.{alone_heard, answered_is, answers_begin, heard_runner}
pub use Rattle.turn_run.proofs.SaidLaws.{said_here, said_part, said_up}
pub use Rattle.turn_run.proofs.StageLaws.{some_each}
pub use Rattle.turn_run.proofs.TellLaws.{marks_ended, told_along}
pub use Rattle.turn_run.proofs.TurnCauses.{rose_later}
pub use Rattle.turn_run.specs.Begun.{HasBegun}
pub use Rattle.turn_run.specs.Counts.{IsAsked}
pub use Rattle.turn_run.specs.Known.{contents_of, point, seen}
pub use Rattle.turn_run.specs.RankEnds.{EndedAt, NoneBroke, most_known_of, runner_end}
pub use Rattle.turn_run.specs.Run.{HasCut, IsRun}
pub use Rattle.turn_run.specs.Running.{HasHeard, IsPlaced, IsPlacedWith, asking, between, calls_of, going_of}
pub use Rattle.turn_run.specs.Said.{HasSaid}
pub use Rattle.turn_run.specs.Steps.{first_runner}
pub use Rattle.turn_run.specs.Told.{HasTold, counts_along, told_marks}
pub use Rattle.turn_run.specs.declared.runners.Runner.{Runner}
pub use Rattle.var_layout.proofs.ElementPlaces.{sound_end}
pub use Rattle.var_layout.proofs.CountedSound.{counted_sound}
