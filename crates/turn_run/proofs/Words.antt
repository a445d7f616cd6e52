-- The words of this crate's proofs, from where they stand.
pub use Rattle.list_laws.proofs.Std.{AllByRecursion, Bool, Err, IfSome, IfSome_then, List, None, Ok, OnErr, OnOk, Option, Result, Some, [], and_from, and_parts, ap, append-nil, append_assoc, append_cancel_left, arith, byte_len, cases_eq, cond, drop, drop-append-add, drop-append_seam, enumerate_from, eqb-true, err_from_is_err_and, ext_get_or, false, filter, filter-append, flat_map, flat_map-append, fold, fold-append, get_or, if◌then◌else◌, inl, inr, is_some, length, length-append, length-map, length-replicate, length-set, list_all, list_all-append, list_any, map, map-append, max, nat_lt, nat_tests, not, on_err_weaker, option_to_list, refl, replicate, result_err, rules, same_Some, set, set-set, slice_get, slice_get-get_or, slice_get_within, slice_index, slice_index_or, subst, suc, sum_by-append, sym, take, take-append_seam, true, true≢false, vec_capacity, with_items_is, zero, zip, ℕ, ◌*◌, ◌++◌, ◌+◌, ◌-◌, ◌<◌, ◌==◌, ◌^◌, ◌||◌, ◌∙◌, ◌∷◌, ◌≡◌, ◌≢◌, ◌≤◌, ◌⊎◌, common_steps}
pub use Rattle.std.specs.Prelude.{IsErrAnd, ◌&&◌}
pub use Rattle.collective_round.proofs.CountedLaws.{put_needed}
pub use Rattle.collective_round.proofs.PutLaws.{no_calls, none_windows}
pub use Rattle.collective_round.proofs.TornFiles.{counted_past, torn_by, torn_sides, torn_wider}
pub use Rattle.collective_round.proofs.TornLaws.{done_torn, round_grows}
pub use Rattle.collective_round.specs.Ended.{pair_of}
pub use Rattle.collective_round.specs.Rounds.{AreGets, ArePuts, IsPut, after_round, as_setting, counted, gets_in, posts_in, puts_in, puts_of_batch, setting}
pub use Rattle.collective_round.specs.declared.collective.PutEnd.{PutEnd}
pub use Rattle.collective_round.specs.declared.collective.PutEnd.TheVariants.{Done, Overlap}
pub use Rattle.join_laws.proofs.Completing.{completed, completed_by}
pub use Rattle.join_laws.proofs.CountLaws.{sound_small}
pub use Rattle.join_laws.proofs.QuietLaws.{meets_quiet}
pub use Rattle.join_laws.proofs.RankLaws.{said_at}
pub use Rattle.join_laws.proofs.ReplyLaws.{gots_long}
pub use Rattle.join_laws.proofs.StandsAlike.{AllTell, close_alike, meets_like, same_beside, solo_like}
pub use Rattle.join_laws.specs.Alike.{AreAlikeEnds, IsLike, blank}
pub use Rattle.list_laws.proofs.Common.{all_joined, and_first, and_second, drop_at, each_more, entry_below, entry_map, entry_map_none, entry_read, entry_replicate, entry_set, entry_set_other, equal_itself, equal_suc, equal_zero, if_some_at, le_two, left_more, map_map, map_more, mapped_entry, on_err, on_ok, or_first_false, set_own, take_next, value_of_some}
pub use Rattle.list_laws.proofs.Types.{Answer, Batch, Call, Disk, DiskCall, Get, Header, Hints, Job, Mark, Meet, Memory, Offer, OfferKind, OverlapRule, Pair, Post, Put, RankEnd, RankStop, Refuse, Reply, RunEnd, Script, Serial, ServeEnd, Solo, StepErr, Var, Want}
pub use Rattle.nc_outside.proofs.ToldLaws.{rose_before, told_as, with_end-nil, with_end-with_end}
pub use Rattle.nc_outside.specs.Cause.{HasDiskCause, Rose}
pub use Rattle.nc_outside.specs.Told.{BothTold, after, with_end}
pub use Rattle.overlay_laws.proofs.Common.{In}
pub use Rattle.rank_core.specs.Offered.{IsSoundWant, posts_offered}
pub use Rattle.rank_core.specs.Ranked.{Ranked}
pub use Rattle.run_laws.proofs.ArrivalLaws.{arrival_step, arrival_steps, calls_of_arrivals, first_up, gone_up, offer_of, serial_of_arrivals, stand_at, state_at}
pub use Rattle.run_laws.proofs.CallLaws.{alone_keeps, hears_keeps, meets_keeps, says_at, solo_keeps}
pub use Rattle.run_laws.proofs.LawfulLaws.{ranks_lawful}
pub use Rattle.run_laws.proofs.StandingLaws.{calls_at, comes_on, comes_to_meeting, comes_to_solo}
pub use Rattle.run_laws.proofs.TogetherLaws.{call_fresh, call_lawful, call_number, call_posts, call_waits, meeting_of_known, order_legal, together_all, together_kind, together_number}
pub use Rattle.run_laws.proofs.WayLaws.{meetings_met, one_of, others_meetings, way_answers, way_begins, way_hears, way_meets, way_others, way_solo}
pub use Rattle.run_laws.specs.Ahead.{answered, is_solo_of}
pub use Rattle.run_laws.specs.Arrivals.{Arrived, Stand, all_calls_over, calls_over, ended_from, heard, solo_to, step_calls, step_to}
pub use Rattle.run_laws.specs.Requests.{posts_held}
pub use Rattle.run_laws.specs.Ways.{AsksAlone, IsOnWay, meetings}
pub use Rattle.serial_spec.proofs.Common.{Begins, Counted, End, Going, HasAnswers, HasAnswersOfEach, Holding, IsCutRun, IsLeft, IsLegal, IsOwnOnce, IsSingleOffer, IsTorn, Open, Puts, Setting, StoodAt, accepted, advance, after_grows, after_keeps, after_mark, after_puts, at, at-written_before, bad_edge, bound, bytes_of, bytes_of_mark, check_some, close_by, closed, collective_windows, concerns, count, count_long, count_width, covered, end_for, end_grows, end_of, first_going, first_state, get_bytes, get_post, gets_of, go, greatest, greatest_joined, header_len, hear, hears, holdings, is_empty, is_lawful, is_meeting, is_of_rank_below, is_sound, known_by, lawful_hints, lengths, loads, longer, longer-enough, marks, may_change, meeting, meeting_calls, most_calls, most_parts, needed, needed_now, needs, no_need, offers_of, product, put_calls, puts_of, raised, raised_grows, raised_records, record_limit, records_of_some, run_calls, serial_from, setting_of, solo, solo_calls, solo_of, some_edge, some_limit, some_rank, starts_with_zero, state_after, step, store_records, taken_long, told, told_of, told_under, wanted, with_records, written, written-front}
pub use Rattle.turn_run.specs.Begun.{HasBegun}
pub use Rattle.turn_run.specs.Counts.{IsAsked, IsCount, IsFit, IsRise, raises}
pub use Rattle.turn_run.specs.Cuts.{HasStopped, IsNext, MayFollow, StopsAt, bytes_at}
pub use Rattle.turn_run.specs.Cuts.StopsAt.{in_step}
pub use Rattle.turn_run.specs.Known.{contents_of, point, seen}
pub use Rattle.turn_run.specs.RankEnds.{EndedAt, HasClosed, NoneBroke, most_known_of, runner_end}
pub use Rattle.turn_run.specs.RankEnds.EndedAt.{as_left, in_close}
pub use Rattle.turn_run.specs.Run.{HasCut, IsRun}
pub use Rattle.turn_run.specs.Running.{AreFree, AreFreed, AreHeard, AreRunners, HasArrived, HasHeard, HaveArrived, HaveMet, IsAnswered, IsFreed, IsMet, IsPlaced, IsPlacedWith, IsRunner, IsToHear, asking, between, calls_of, going_of, reply_of}
pub use Rattle.turn_run.specs.Said.{AllSay, AreAnswers, HasReached, HasSaid, HaveAnswers, HaveHeardInPart, KeepAnswers, SaysAt, all_between}
pub use Rattle.turn_run.specs.Stages.{HasGone, HasLed, IsGrownBy, IsLed, Leads, LeadsAlike, Stage, arrived, arrived_all, rank_stage, stage, stand_of}
pub use Rattle.turn_run.specs.Steps.{IsJob, IsOneRise, batches_of, first_runner, held_offers, known_of, met, met_calls, needed_after}
pub use Rattle.turn_run.specs.Told.{HasTold, HasToldMore, counts_along, told_marks, told_over}
pub use Rattle.turn_run.specs.declared.runners.Runner.{Runner}
pub use Rattle.var_layout.proofs.ElementPlaces.{sound_end}
pub use Rattle.var_layout.proofs.WrittenLengths.{canon_len}
pub use Rattle.var_layout.proofs.CountedSound.{counted_sound}
