-- The words of this crate's proofs, from where they stand.
pub use Rattle.list_laws.proofs.Std.{All, All-push, Bool, List, [], ap, append-nil, append_assoc, arith, cond, count_by-le-length, eqb, false, filter, filter-append, length, length-append, length-filter, length-map, lt_of_not-le, map, map-append, range_with_len, refl, rules, set, subst, suc, sym, true, zero, ℕ, ⊎_elim, ◌++◌, ◌+◌, ◌<◌, ◌==◌, ◌∙◌, ◌∷◌, ◌≡◌, ◌≢◌, ◌≤◌, nat_tests}
pub use Rattle.std.proofs.Common.{eq-eqb, ne_eqb}
pub use Rattle.atomic_table.proofs.Lists.{at_set}
pub use Rattle.crossbeam_channel.specs.Claims.{IsSeatAt, view}
pub use Rattle.crossbeam_channel.specs.Ends.{ruled_capacity, sends_on}
pub use Rattle.crossbeam_channel.specs.Fifo.{Forks, Learns, Merges, Pops, Pushes}
pub use Rattle.list_laws.proofs.Common.{no_false, range_push}
pub use Rattle.ruled_line.specs.Ends.{Line, Sender, items_under, line_of}
pub use Rattle.ruled_line.specs.InboxRule.{FitsInbox, InboxHolds, idle_view, met_view, receiver_view, sender_view}
pub use Rattle.ruled_line.specs.LineRule.{FitsLine, LineHolds, line_view}
pub use Rattle.ruled_line.specs.declared.inbox_rule.InboxView.{InboxView}
pub use Rattle.ruled_line.specs.declared.line_rule.LineView.{LineView}
