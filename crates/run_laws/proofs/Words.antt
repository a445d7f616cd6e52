-- The words of this crate's proofs, from where they stand.
pub use Rattle.list_laws.proofs.Std.{Bool, IfSome, List, None, Option, Some, [], and-false, and_from, ap, append-nil, append_assoc, arith, bytes_eq-Decides, cond, cons_option, drop, enumerate_from, eq-eqb, eqb-true, eqb_tells, false, filter, filter-append, fold, fold-append, if◌then◌else◌, is_none, is_some, length, list_all, list_all-append, list_any, map, map-set, max, nat_lt, nat_tests, not, refl, same_Some, set, set-set, slice_get, subst, suc, sum_by-append, sym, true, true≢false, zero, zip, ℕ, ◌&&◌, ◌*◌, ◌++◌, ◌+◌, ◌<◌, ◌==◌, ◌^◌, ◌||◌, ◌∙◌, ◌∷◌, ◌≡◌, ◌≢◌, ◌≤◌, slice_get-map}
pub use Rattle.std.proofs.Common.{length-drop}
pub use Rattle.list_laws.proofs.Common.{and_first, and_second, either, entry_below, entry_map, entry_numbered, entry_set, first_same, le_two, long_push, map_map, none_of_test, passes_at, set_own, value_of_some}
pub use Rattle.list_laws.proofs.Types.{Answer, Batch, Call, Choice, Code, DiskCall, Header, Hints, Mark, Meet, MeetKind, Offer, OfferKind, Post, Reply, Script, Solo, Want}
pub use Rattle.run_laws.specs.Ahead.{AreAt, AreEnded, HasCome, all_hear, answered, asking, calls_so_far, is_solo_of, own_calls, own_step}
pub use Rattle.run_laws.specs.Arrivals.{Arrived, Stand, all_calls_over, calls_over, ended_from, first_stand, solo_to, step_calls, step_to}
pub use Rattle.run_laws.specs.Requests.{IsFresh, IsShare, posts_held}
pub use Rattle.run_laws.specs.Ways.{AreNew, IsOnWay, Waits, kind_of_offer, kinds_of, meetings, mode_heard}
pub use Rattle.serial_spec.proofs.Common.{Asks, Counted, Empty, Going, Gone, IsLawful, IsLegal, Look, NullRequest, Open, Posted, Rank, Refused, Setting, Status, Waiting, advance, after_mark, after_solo, agree, are_different, buffer_code, bytes_in, calls_from, closed, concerns, first_going, first_state, go, hear, hears, id_posted, is_chosen, is_collective, is_data, is_lawful, is_lawful_call, is_meeting, is_of_rank_below, kind_number, kind_numbers, kind_of_call, kind_of_meeting, kinds, lawful_parts, look, mark_calls, marks, marks_from, meeting, mode_after, most_calls, most_parts, named, offers_of, post_after, posted_ids, posts, run_calls, serial_from, setting_of, solo_calls, solo_of, state_after, status_of, step, store_records, values_of_post, with_posted, without_chosen}
