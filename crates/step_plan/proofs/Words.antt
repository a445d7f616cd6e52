-- The words of this crate's proofs, from where they stand.
pub use Rattle.list_laws.proofs.Std.{IfOk, IfSome, List, None, Option, Some, [], ap, append-nil, append_assoc, arith, drop, enumerate_from, flat_map, flat_map-append, flat_map-map, fold, get_or, inl, inr, length, length_push, map, map-append, max, range_with_len, refl, same_Some, slice_get, subst, sym, take, take_all, take_more, ℕ, ◌++◌, ◌+◌, ◌-◌, ◌<◌, ◌^◌, ◌∙◌, ◌∷◌, ◌≡◌, ◌≤◌, nat_tests}
pub use Rattle.std.specs.Prelude.{Err, Ok, Result, min}
pub use Rattle.collective_round.proofs.BatchLaws.{batch_needed, one_batch, own_puts}
pub use Rattle.collective_round.proofs.GetLaws.{batch_gets, order_by}
pub use Rattle.collective_round.proofs.PostEntries.{left_of, there_is}
pub use Rattle.collective_round.proofs.PutLaws.{cover_ends, laid_calls_by, laid_needs, lawful, none_windows, puts_needed, same_order, shared_calls, shared_needs}
pub use Rattle.collective_round.proofs.ResultSteps.{loads_are, stores_are}
pub use Rattle.collective_round.proofs.StepEntries.{puts_accepted}
pub use Rattle.collective_round.proofs.StepLaws.{list_laid, list_shared, own_once, own_shared, own_told}
pub use Rattle.collective_round.specs.Gathered.{AreAccepted, posts_of}
pub use Rattle.collective_round.specs.Laid.{AreGot, AreLaid, AreSorted, source_of}
pub use Rattle.collective_round.specs.Listed.{IsListOf}
pub use Rattle.collective_round.specs.Parts.{AreDomains}
pub use Rattle.collective_round.specs.Rounds.{AreGets, ArePuts, gets_in, posts_in, puts_in, puts_of_batch, setting}
pub use Rattle.collective_round.specs.declared.entries.PutList.{PutList}
pub use Rattle.collective_round.specs.declared.entries.PutList.TheVariants.{Laid}
pub use Rattle.exchange_crew.specs.Turns.{Told, turns_of}
pub use Rattle.list_laws.proofs.Common.{if_some_at, next_numbered, no_none_some}
pub use Rattle.list_laws.proofs.Types.{Batch, DiskCall, Extent, Get, Header, Hints, OverlapRule, Owned, Pair, Post, Put, Var}
pub use Rattle.overlay_laws.proofs.Common.{HaveSame, In, IsCover, cover_in_order, in_either, load_calls, ranges, read_in, store_calls, told_of}
pub use Rattle.serial_spec.proofs.Common.{Puts, Setting, bytes_of, collective_windows, end_for, get_bytes, greatest, grow_to, in_order, loads, needed, needed_by, needed_now, overlays, sieving_windows, spans, told}
pub use Rattle.step_plan.specs.Asked.{asked_by_all, asked_of, asked_with, some_asked, with_piece}
pub use Rattle.step_plan.specs.Phases.{HaveGetDomains, HaveGetWindows}
pub use Rattle.step_plan.specs.Phases.HavePutDomains.{laid, refused}
pub use Rattle.step_plan.specs.Steps.{AreDivided, AreDomainPlans, AreSievedPlans, IsDomainPlan, grow_call, in_one_range, last_end, loads_in, reach_of, stores_in, windows_in}
pub use Rattle.step_plan.specs.declared.plan.Asked.{Asked}
pub use Rattle.step_plan.specs.declared.plan.DomainPlan.{DomainPlan}
pub use Rattle.vara_extents.specs.Accepted.{IsAccepted}
pub use Rattle.vara_extents.specs.Joined.{extents_of}
pub use Rattle.vara_extents.specs.Left.{extents_left}
pub use Rattle.vara_extents.specs.declared.walk.Extents.{Extents}
pub use Rattle.window_plan.specs.Windows.{AreShared, get_calls, put_calls, told_plan}
pub use Rattle.window_plan.specs.declared.plan.WindowPlan.{WindowPlan}
