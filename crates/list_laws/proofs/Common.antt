-- What the proofs of other crates take from here.
pub use Rattle.list_laws.proofs.Appends.{append_parts, cons_rest, long_push, nil_cons, then_append}
pub use Rattle.list_laws.proofs.Each.{all_joined, any_or_none, each_append, each_at, each_fails, each_flat_map, each_later, each_map, each_passes, each_push, each_weaker, fails_at, fails_each, none_any, passes_at, passes_each, zip_weaker}
pub use Rattle.list_laws.proofs.Fronts.{first_of, front_or_all, prefix_long}
pub use Rattle.list_laws.proofs.Maps.{any_map, entry_map, entry_map_none, filter_at_most, flat_same, found_passes, map_map, map_more, mapped_entry, next_numbered, position_map, rows_same}
pub use Rattle.list_laws.proofs.Numbers.{le_two, same_factor, same_le, some_factor}
pub use Rattle.list_laws.proofs.Optional.{both_none, first_counts, if_some_at, neither_some, no_none_some, none_before_map, none_last, none_of_test, not_some, option_or_assoc, second_counts, some_not_none, some_of_map, some_or_none, told_else, told_unless, untold, value_of_some}
pub use Rattle.list_laws.proofs.Parts.{part, part_joined, part_map, part_none}
pub use Rattle.list_laws.proofs.Places.{drop_at, each_more, entry_below, entry_beside, entry_numbered, entry_read, entry_replicate, entry_set, entry_set_other, entry_zip, first_same, get_left, get_right, left_more, middle_at, position_below, set_own, take_at_most, take_next}
pub use Rattle.list_laws.proofs.Ranges.{all_below, none_in_range, pieces_long, range_append, range_first, range_next, range_push, range_rest, spans_long}
pub use Rattle.list_laws.proofs.Refills.{refilled}
pub use Rattle.list_laws.proofs.Results.{on_err, on_ok}
pub use Rattle.list_laws.proofs.Truth.{all_three, and_first, and_second, either, equal_above, equal_below, equal_itself, equal_suc, equal_true, equal_zero, holds_or_not, no_both, no_false, not_zero, or_false, or_first_false, or_second_false}
pub use Rattle.list_laws.proofs.Walks.{goes_on}
