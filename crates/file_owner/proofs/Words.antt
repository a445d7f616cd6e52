-- The words of this crate's proofs, from where they stand.
pub use Rattle.list_laws.proofs.Std.{AllByRecursion, Bool, Err, IfSome, IfSome_then, List, None, OnOk, Option, Result, Some, [], and_right, any_passes_from_place, ap, append-nil, append_assoc, arith, byte_len, cases_eq, common_steps, drop, drop-append_seam, enumerate_from, eqb_tells, false, filter, filter-append, filter_map-append, flat_map, get_or, get_or_from_slice_get, inl, inr, is_some, length, length-map, length-replicate, length-set, list_all, list_all-append, list_any, map, map-append, max, nat_lt, nat_tests, not, not-false, on_err_weaker, on_ok_weaker, option_map, option_to_list, or_parts, refl, replicate, rules, same_Some, set, slice_get, slice_get-get_or, slice_get_within, subst, suc, sym, take, true, zero, ℕ, ◌&&◌, ◌*◌, ◌++◌, ◌+◌, ◌<◌, ◌==◌, ◌^◌, ◌||◌, ◌∙◌, ◌∷◌, ◌≡◌, ◌≤◌, ◌⊎◌}
pub use Rattle.std.proofs.lemmas.List.{length-append, replicate-append-replicate}
pub use Rattle.std.specs.Prelude.{◌≢◌}
pub use Rattle.collective_round.proofs.TornFiles.{torn_by, torn_wider}
pub use Rattle.collective_round.proofs.TornLaws.{done_torn}
pub use Rattle.collective_round.specs.Rounds.{counted, dataset_setting, puts_in, setting}
pub use Rattle.file_owner.specs.Halted.{HasFinished, HasHaltCause, HasHalted, HasSeenAll, HasServed, IsHaltAt, IsLeft, IsNoMore, Outcome, Stopped, of_fault, of_stranger, stopped_with, taken_from}
pub use Rattle.file_owner.specs.Lent.{AreSame}
pub use Rattle.file_owner.specs.Owned.{AreOfOneKind, AreSingle, GoesAlike, GoesSo, Grows, HasDone, HasMovedOnce, HasRun, HoldAll, HoldSingle, IsAlone, IsHeld, IsSingle, IsSingleOffer, IsSteady, IsTogether, Standing, calls_at, calls_at_offer, calls_if, each_told, event_calls, first_standing, opening_standing, owner_at, owner_calls, owner_of, owner_told, replies, run, standing, standing_at}
pub use Rattle.file_owner.specs.Refused.{HasCutService, IsFaultAt, IsRefusedAlone, IsRefusedArrival, IsRefusedTogether}
pub use Rattle.file_owner.specs.Service.{HasFailed, HasTaken, HasToldAlong, HavePut, IsCutOff, IsDone, IsDoneSo, arrived, gained, opening, passed}
pub use Rattle.file_owner.specs.Stops.{AllHaveEnded, HaveEnded, HaveMet, IsMore, held_stops, put_one, stop_each, stops_for}
pub use Rattle.file_owner.specs.Strange.{fails_as_offer, fails_test, leaves_behind}
pub use Rattle.file_owner.specs.declared.lent.Outlets.{Outlets}
pub use Rattle.file_owner.specs.declared.service.Halt.{Halt}
pub use Rattle.join_laws.proofs.BegunLaws.{own_two}
pub use Rattle.join_laws.proofs.ClientTurns.{client_ended, client_held}
pub use Rattle.join_laws.proofs.EventLaws.{own_here, own_other}
pub use Rattle.join_laws.proofs.GoingOnLaws.{given_on}
pub use Rattle.join_laws.proofs.JoinLaws.{owed_on, owed_stop, served_on, stranger_on}
pub use Rattle.join_laws.proofs.OwnerAlikeLaws.{alike_same, alike_two}
pub use Rattle.join_laws.proofs.ReplyLaws.{gots_long}
pub use Rattle.join_laws.proofs.StepLaws.{offers_long}
pub use Rattle.join_laws.proofs.StrangeLaws.{event_is}
pub use Rattle.join_laws.proofs.TieLaws.{one_if, owed_count}
pub use Rattle.join_laws.specs.Alike.{AreAlike, TellAlike}
pub use Rattle.list_laws.proofs.Common.{all_joined, and_first, and_second, entry_below, entry_read, entry_replicate, entry_set, entry_set_other, equal_itself, fails_at, if_some_at, left_more, map_map, not_some, on_err, or_false, some_or_none, passes_at, take_next, value_of_some}
pub use Rattle.list_laws.proofs.Types.{Batch, Direction, DiskCall, Header, Hints, Mark, Meet, MeetKind, Memory, Offer, OfferKind, OwnerItem, Pair, Post, RankItem, Solo, StepErr, Stop}
pub use Rattle.nc_base.specs.declared.step.OwnerItem.TheVariants.{Reply}
pub use Rattle.nc_outside.proofs.ToldLaws.{with_end-nil, with_end-with_end}
pub use Rattle.nc_outside.specs.Cause.{Rose}
pub use Rattle.nc_outside.specs.Told.{BothTold, after, with_end}
pub use Rattle.overlay_laws.proofs.Common.{In, in_left, in_right}
pub use Rattle.owner_laws.proofs.ServedLaws.{cut_by_arrivals, done_by_arrivals}
pub use Rattle.rank_core.specs.Offered.{IsPut, IsSoundOffer}
pub use Rattle.rank_items.proofs.OwnBytes.{own_bytes}
pub use Rattle.rank_items.specs.Own.{HasOwnElements, HasOwnPuts}
pub use Rattle.ruled_line.specs.Ends.{End, Receiver, with_item}
pub use Rattle.serial_spec.proofs.Common.{Arrival, Client, Counted, Event, HasEnd, IsGivenInPart, IsTorn, Owner, OwnerStoodAt, Puts, Setting, after_puts, any_member, at_arrival, at_in, at_item, at_offer, bad_batch, between_arrivals, check, count_width, covered, differs, does_meeting, does_solo, event, free_client, freed, get_post, given_along, greatest_joined, has_ended, has_held, has_left, holds, is_offer, is_ok_code, is_sound, keeps, kind_held, kind_of_meeting, known_less, left_behind, meeting, meeting_calls, meeting_kind, meets_if, needed_now, offer_of, offers_at, offers_held, offers_in, owed, own_items, product, puts_of, raised_records, refused, same_kind, served, size_of, solo, solo_calls, some_true, step_offers, stop_held, stops, to_each, to_one, told, wanted, wrong_length}
unfoldable pub use Rattle.serial_spec.proofs.Common.{is_strange, strange_offer}
pub use Rattle.turn_run.proofs.CountLaws.{count_less, count_longer, count_max}
pub use Rattle.turn_run.proofs.CutMeet.{met_count, met_done, met_torn}
pub use Rattle.turn_run.proofs.MeetOffers.{offers_job, one_rise, rise_brought}
pub use Rattle.turn_run.proofs.MeetStep.{met_calls_are, met_is, puts_same, replies_are}
pub use Rattle.turn_run.proofs.StageLaws.{some_each}
pub use Rattle.turn_run.specs.Counts.{IsCount, IsFit, IsRise}
pub use Rattle.turn_run.specs.Known.{point}
pub use Rattle.turn_run.specs.Running.{reply_of}
pub use Rattle.turn_run.specs.Steps.{IsJob, IsOneRise, batches_of, known_of, met, met_calls}
pub use Rattle.vara_extents.proofs.PartLaws.{ok_is}
