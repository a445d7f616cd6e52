-- The words of this crate's proofs, from where they stand.
pub use Rattle.list_laws.proofs.Std.{Bool, List, None, Option, Some, [], ap, append-nil, arith, cond, eqb-false, eqb_tells, false, filter-append, filter_map, filter_map-append, inl, inr, is_some, length, length-map, length-replicate, length-set, list_all, list_all-append, list_any, map, max, nat_lt, nat_tests, option_and_then, option_or, range_with_len, refl, replicate, same_Some, set, slice_get, slice_get_within, subst, suc, sym, true, zero, ℕ, ◌&&◌, ◌++◌, ◌+◌, ◌<◌, ◌==◌, ◌∙◌, ◌∷◌, ◌≡◌, ◌⊎◌, ltb-true, common_steps}
pub use Rattle.std.proofs.lemmas.List.{length-append}
pub use Rattle.std.specs.Option.{option_map}
pub use Rattle.join_laws.proofs.ClientTurns.{client_ended, client_held}
pub use Rattle.join_laws.proofs.DoneLaws.{done_is}
pub use Rattle.join_laws.proofs.JoinLaws.{served_on, stranger_on}
pub use Rattle.join_laws.proofs.OwnerAlikeLaws.{none_marked}
pub use Rattle.list_laws.proofs.Common.{and_first, and_second, entry_below, entry_map, entry_replicate, entry_set, entry_set_other, none_last}
pub use Rattle.list_laws.proofs.Types.{Mark, MeetKind, Offer, OfferKind, RankItem}
pub use Rattle.owner_laws.specs.ByArrivals.{IsCutByArrivals, IsDoneByArrivals}
pub use Rattle.owner_laws.specs.Strangers.{are_left_behind, before_stranger, before_stranger_from, brought, end_of_item, ends, first_stranger, first_stranger_from, has_fewer, has_left, is_strange_after, kind_waiting, last, meeting_offer, meeting_offers, puts_brought, puts_complete, puts_met, waiting, waits}
pub use Rattle.serial_spec.proofs.Common.{Arrival, Client, Counted, Event, Owner, Puts, Setting, at_item, at_offer, differs, done, event, first_owner, free_client, freed, has_ended, has_held, holds, is_offer, kind_held, kind_of_meeting, left_behind, left_by, meeting_kind, meets_if, needed_now, no_need, offer_of, offers_held, puts_of, served, some_true, strange_offer}
unfoldable pub use Rattle.serial_spec.proofs.Common.{is_strange}
