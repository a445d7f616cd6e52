-- The words of this crate's proofs, from where they stand.
pub use Rattle.list_laws.proofs.Std.{List, [], ap, append-nil, append_assoc, arith, false, flat_map-append, flat_map_more, get_or, inl, inr, length, map, map-append, max, min, nat_lt, nat_tests, range_with_len, refl, rules, subst, sym, take, take_more, ℕ, ◌++◌, ◌+◌, ◌-◌, ◌<◌, ◌^◌, ◌∙◌, ◌∷◌, ◌≡◌, ◌≤◌}
pub use Rattle.std.specs.List.{flat_map}
pub use Rattle.aggregator_rounds.proofs.PastSteps.{all_left, past_twice, walk_begin}
pub use Rattle.aggregator_rounds.proofs.SplitSteps.{entry_ends, extents_left, sorted_right}
pub use Rattle.aggregator_rounds.specs.Left.{IsPast, entries_left}
pub use Rattle.aggregator_rounds.specs.ToldWindows.{told_window}
pub use Rattle.data_sieving.proofs.LoopSteps.{none_carried, walk_ready}
pub use Rattle.data_sieving.proofs.ReachSteps.{hull_end, served_ends}
pub use Rattle.data_sieving.proofs.WindowSteps.{all_windows, goes_on, next_told, no_window, windows_next}
pub use Rattle.data_sieving.specs.Sieving.{entry_windows}
pub use Rattle.data_sieving.specs.Walked.{AreLeft, IsNext, LieAcross, entries_in, windows_from}
pub use Rattle.exchange_crew.proofs.DomainTurns.{domain_turns}
pub use Rattle.exchange_crew.proofs.TurnLaws.{at_begin, at_next, front_carried, left_ends, left_filled, left_sorted, served_now, turn_limit}
pub use Rattle.exchange_crew.specs.Cursor.{AreInFront, IsAt}
pub use Rattle.exchange_crew.specs.Turns.{Told, turns_ahead, turns_of}
pub use Rattle.file_domains.specs.Rounds.{IsWalk}
pub use Rattle.file_domains.specs.declared.walk.Window.{Window}
pub use Rattle.file_domains.specs.declared.walk.WindowWalk.{WindowWalk}
pub use Rattle.list_laws.proofs.Types.{Extent, Owned}
pub use Rattle.overlay_laws.proofs.Common.{In, extents, in_either, in_right, told_of}
pub use Rattle.window_plan.specs.Windows.{AreShared, bytes_for, get_calls, own_bytes, owner_between, owner_in, owners_in, plan_of, put_calls, ranks_in, share_of, some_share, told_plan}
pub use Rattle.window_plan.specs.declared.plan.Owner.{Owner}
pub use Rattle.window_plan.specs.declared.plan.Share.{Share}
pub use Rattle.window_plan.specs.declared.plan.WindowPlan.{WindowPlan}
