-- The words of this crate's proofs, from where they stand.
pub use Rattle.list_laws.proofs.Std.{Bool, List, None, Option, Some, [], ap, append-nil, append_assoc, arith, byte_len, cond, drop, drop_more, enumerate_from, false, flat_map, flat_map-append, fold, fold-append, get_or, inl, inr, length, list_all, map, map-append, max, nat_lt, refl, rules, same_Some, set, set-set, slice_get, slice_get_within, slice_index_or, subst, suc, sym, take, true, true≢false, w32, w64, with_items_is, zero, ℕ, ◌++◌, ◌+◌, ◌-◌, ◌<◌, ◌==◌, ◌^◌, ◌∙◌, ◌∷◌, ◌≡◌, ◌≤◌, nat_tests}
pub use Rattle.std.specs.Prelude.{replicate}
pub use Rattle.collective_round.proofs.GetLaws.{batch_gets, zero_row, zero_rows}
pub use Rattle.collective_round.proofs.NeedLaws.{field_inside, greatest_more}
pub use Rattle.collective_round.proofs.PutLaws.{covered_below, laid_needs, rises, shared_needs}
pub use Rattle.collective_round.specs.Blobs.{blobs_for}
pub use Rattle.collective_round.specs.Rounds.{ArePuts, counted, gets_in, puts_in}
pub use Rattle.join_laws.proofs.StandsAlike.{close_alike, offers_beside, same_beside}
pub use Rattle.join_laws.specs.Alike.{AllBeside, AreAlikeEnds, IsLike, blank, blank_item}
pub use Rattle.list_laws.proofs.Common.{all_joined, either, entry_set, map_map, set_own, value_of_some}
pub use Rattle.list_laws.proofs.Types.{Answer, Batch, Call, DiskCall, Extent, Header, Hints, Item, Mark, Meet, Offer, Pair, Post, Reply, Script, Solo}
pub use Rattle.overlay_laws.proofs.Common.{In, cells_long, cells_of_puts, puts_room}
pub use Rattle.run_laws.proofs.ArrivalLaws.{first_up}
pub use Rattle.run_laws.proofs.LawfulLaws.{ranks_lawful}
pub use Rattle.run_laws.proofs.TogetherLaws.{call_number}
pub use Rattle.run_laws.proofs.WayLaws.{one_of}
pub use Rattle.run_laws.specs.Ahead.{is_solo_of}
pub use Rattle.run_laws.specs.Arrivals.{Arrived, Stand, ended_from, first_stand, offer_at, step_to}
pub use Rattle.run_laws.specs.Ways.{IsOnWay, meetings}
pub use Rattle.run_plan.specs.Planned.{AreStepsOf, Follows, HasPlanned, HasPlannedAll, IsFollowed, IsMeetingPlan, IsSoloOf, IsSoloPlan, PlanStage, RankPlan, caller, caller_at, calls_in, meeting_callers, order_in, plan_stage, rank_plan, runner_caller}
pub use Rattle.run_plan.specs.Runs.{HasEnded, IsPlanOf, greatest_known, item_without_values, without_values}
pub use Rattle.run_plan.specs.declared.run.RunPlan.{RunPlan}
pub use Rattle.run_plan.specs.declared.steps.Progress.{Progress}
pub use Rattle.serial_spec.proofs.Common.{Counted, End, Going, Puts, Setting, advance, after_puts, close_by, collective_windows, count, count_long, end_for, get_bytes, gets_of, greatest, header_len, hears, is_lawful, is_sound, lawful_hints, length-written_inside, loads, longer, longer_long, meeting_calls, most_calls, needed_by, needed_now, needs, offers_of, put_calls, puts_are_cells, puts_of, raised, raised_records, run_calls, serial_from, setting_of, sieving_windows, store_records, told, wanted, with_records}
pub use Rattle.step_plan.specs.Steps.{count_call, file_calls, grow_call, windows_in}
pub use Rattle.step_plan.specs.declared.plan.Caller.{Caller}
pub use Rattle.step_plan.specs.declared.plan.FilePlan.{FilePlan}
pub use Rattle.step_plan.specs.declared.plan.StepPlan.{StepPlan}
pub use Rattle.turn_run.proofs.AloneLaws.{alone_alike, alone_asks, alone_waits, arrived_free, arrived_gone, arrived_held, call_alone, fits_open, heard_known, order_is, same_runner, step_at, taken_asks, way_free, went_runner}
pub use Rattle.turn_run.proofs.CountLaws.{count_begins, count_longer, count_max, rise_longer, rise_max}
pub use Rattle.turn_run.proofs.MeetDone.{free_after, have_done, runners_after, table_long, taken_by, to_hear}
pub use Rattle.turn_run.proofs.MeetOffers.{AllHold, asked_fit, meets_job, meets_rise}
pub use Rattle.turn_run.proofs.MeetPosts.{get_of, needed_rise, put_of, ranked_puts}
pub use Rattle.turn_run.proofs.MeetStep.{FitsGets, HaveDone, IsTaken, meeting_alike, met_calls_are, met_is, offers_are}
pub use Rattle.turn_run.proofs.RunnerLaws.{alone_heard, heard_runner}
pub use Rattle.turn_run.proofs.TurnEnds.{AreOver, Comes, all_ended, are_over, comes, ended_legal, free, holding, map_ended, met_number, next_meeting}
pub use Rattle.turn_run.proofs.TurnKnown.{most_known}
pub use Rattle.turn_run.proofs.TurnRuns.{calls_from_first, first_count, first_free, first_runners, first_stage, serial_from_first, told_end}
pub use Rattle.turn_run.proofs.TurnSteps.{below_other, calls_there, get_arrived, get_at, grown_meetings, runners_step, set_arrived, set_each}
pub use Rattle.turn_run.specs.Counts.{IsCount, IsRise}
pub use Rattle.turn_run.specs.Running.{AreFree, AreRunners, HasArrived, HaveArrived, IsRunner, asking, between, calls_of}
pub use Rattle.turn_run.specs.Stages.{IsGrownBy, arrived, arrived_all}
pub use Rattle.turn_run.specs.Steps.{batches_of, first_runner, held_offers, met}
pub use Rattle.turn_run.specs.declared.runners.Runner.{Runner}
