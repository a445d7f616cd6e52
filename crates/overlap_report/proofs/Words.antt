-- The words of this crate's proofs, from where they stand.
pub use Rattle.list_laws.proofs.Std.{Bool, IfNone, IfSome, IsAllAdjacentAnswer, IsHeap, IsItemAt, IsPermutation, IsPermutation-put_mid, IsPermutation-trans, IsUpperBound, List, None, Option, PopsGreatest, Some, [], answers_always, ap, append-nil, arith, cases_lt, cond, drop, drop_of_length-le, enumerate_from, false, flat_map-append, get_or, get_or_default, heap_items, heap_len, inl, inr, is_ge, length, lt-ltb, map, map_push, max, nat_lt, nat_tests, option_copied, ordering_then, range_with_len, refl, rules, same_Some, subst, suc, sym, take, take_all, take_more, true, zero, ℕ, ◌++◌, ◌+◌, ◌-◌, ◌<◌, ◌==◌, ◌^◌, ◌∙◌, ◌∷◌, ◌≡◌, ◌≤◌, ◌⊎◌, ltb-true, common_steps}
pub use Rattle.std.proofs.Common.{Bor, is_lt, nat_cmp, slice_get}
pub use Rattle.std.specs.Prelude.{MatchOption}
pub use Rattle.std.specs.declared.cmp.Ordering.{Ordering}
pub use Rattle.std.specs.declared.cmp.Ordering.TheVariants.{Equal, Greater, Less}
pub use Rattle.list_laws.proofs.Common.{no_both}
pub use Rattle.list_laws.proofs.Types.{Extent, Owned, Pair}
pub use Rattle.overlap_report.specs.Holders.{AreLeast, key, with_key}
pub use Rattle.overlap_report.specs.Parts.{IsPartOfOne}
pub use Rattle.overlap_report.specs.Reach.{same_as, with_entry}
pub use Rattle.overlap_report.specs.SharedBytes.{ArePairAt, AreTwo, Covers, HasHolder, IsClearAt, IsFirst, key_of}
pub use Rattle.overlap_report.specs.Sorted.{run, sort_key}
pub use Rattle.overlap_report.specs.Sweep.{AreFit, IsTop, StandsBy, Swept, Winner, claim_cmp, entries_of, owned_of, part_of}
pub use Rattle.overlap_report.specs.declared.holders.Least.{Least}
pub use Rattle.overlap_report.specs.declared.holders.Least.TheVariants.{Nobody, One, Two}
pub use Rattle.overlap_report.specs.declared.holders.Request.{Request}
pub use Rattle.overlap_report.specs.declared.serial.Claim.{Claim}
pub use Rattle.overlap_report.specs.declared.shared.Reach.{Reach}
pub use Rattle.overlay_laws.proofs.Common.{AtMost, EndBelow, HaveSame, In, IsByPlace, IsCover, IsGreatest, IsInLine, IsOnceEach, IsResolved, Origin, entry_in, extents, flat_in, greatest_once, holder_of, holds_by, in_either, in_extents, in_left, in_map, in_range, in_right, in_taken, map_in, origins, origins_of, range_high, range_low, ranges, same_permuted, says_cases, says_left, says_right}
pub use Rattle.serial_spec.proofs.Common.{at_in, Holds, Key, Says, below_through, first_end, holdings_of_entries, key_below, key_equal, key_itself, pair_found, pair_only, same_key, second_end, shared_pair_of, spans}
