-- The words of this crate's proofs, from where they stand.
pub use Rattle.list_laws.proofs.Std.{All-filter, All-found, All-push, All-weaker, AllByRecursion, BTreeMap, Bool, IfNone, IfOk-weaker, IsOrdered, IsStrictlySortedBy, IsUnchanged, List, None, Option, Some, [], add-one, and_from, and_right, any-filter_same, ap, append_assoc, arith, both_ways, cases_Bool, cases_eq, cases_lt, cases_order, common_steps, cond, cond-false, cond-true, cond_both, contains, count_by, count_by-le-length, deref, drop, drop-cons, eq-eqb, eqb, eqb-false, eqb-true, false, filter, filter-append, flat_map, flat_map-map, get, get_or, inl, inr, insert_entry, into_iter_items, is_at, is_eq, is_some, keys_of, le-ltb, length, length-filter, length-map, list_any, list_any_more, lookup, lt-ltb, ltb, ltb-false, map, map-append, map_push, min, nat_cmp, nat_cmp_is, nat_cmp_total, nat_tests, ne_eqb, not, option_copied, option_map, or_cases, or_from, or_left, or_parts, or_right, ranked, recursion_from_All, refl, remove_entry, rest_all, rest_more, rules, sorted_head, sorted_tail, subst, sum-map, sum_by, sum_by-cons, sum_by-filter_both, sum_by_more_le, sum_by_push, sym, take, take_all, true, values, values_of, vec_len, ℕ, ◌++◌, ◌+◌, ◌-◌, ◌<◌, ◌^◌, ◌||◌, ◌∙◌, ◌∷◌, ◌≡◌, ◌≤◌, ◌⊎◌}
pub use Rattle.std.proofs.Common.{append-nil}
pub use Rattle.std.specs.List.{All}
pub use Rattle.std.specs.Prelude.{sum}
pub use Rattle.std.specs.Vec.{vec_capacity}
pub use Rattle.std.specs.declared.cmp.Ordering.TheVariants.{Equal, Greater, Less}
pub use Rattle.request_queue.specs.Buffer.{Account, new_code}
pub use Rattle.list_laws.proofs.Common.{any_map, map_map, not_some}
pub use Rattle.list_laws.proofs.Types.{Bput, Code, Item, Post, PostKind}
pub use Rattle.request_queue.specs.Indexed.{IsIndex, is_place, stands_at}
pub use Rattle.request_queue.specs.Kept.{Accounts, HasUsed, Holds, as_posted, claim_code, claimed, code_by, freed, gets_of, has_waiting, held, is_buffered, is_listed, is_null, items_by, posted_of, posts_of, puts_of, removed, standing, status_in}
pub use Rattle.request_queue.specs.Queued.{Queued, rank_with, with_request}
pub use Rattle.request_queue.specs.declared.queue.Posting.{Posting}
pub use Rattle.request_queue.specs.declared.queue.Request.{Request}
pub use Rattle.serial_spec.proofs.Common.{Gone, NullRequest, Posted, Status, Waiting, batch_chosen, buffer_code, buffered, bytes_in, chosen, detach_code, gets_in, has_id, is_bput, is_chosen, is_waiting, item_code, items_from, named, puts_in, status_of, waiting_ids}
