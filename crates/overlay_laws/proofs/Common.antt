-- What the proofs of other crates take from here.
pub use Rattle.overlay_laws.proofs.ChangeLaws.{between_next}
pub use Rattle.overlay_laws.proofs.CoverLaws.{below_told, cover_in_order, hull_told, last_joined, last_of_range, past_round, range_above_none, range_first, same_ascending, spans_above, spans_ascend, spans_below, spans_below_none, spans_past, triple_same}
pub use Rattle.overlay_laws.proofs.DomainLaws.{share}
pub use Rattle.overlay_laws.proofs.EntryLaws.{enumerate_joined, gathered_says, get_collected, in_extents, list_says, same_permuted, says_cases, says_left, says_moved, says_place, says_right}
pub use Rattle.overlay_laws.proofs.HolderLaws.{entries_pair, holder_of, holds_by}
pub use Rattle.overlay_laws.proofs.HullLaws.{any_in, ceil_covers, div_grows, filter_ascends, first_least, flat_in, in_any, in_either, in_flat, in_in_order, in_left, in_order_ascends, in_order_in, in_range, in_right, last_below, last_most, range_ascends, range_high, range_low, windows_have}
pub use Rattle.overlay_laws.proofs.Members.{each_in, entry_in, in_map, in_numbered, in_taken, in_zip, map_in, numbered_at, numbered_from, numbered_in, read_in, zip_in}
pub use Rattle.overlay_laws.proofs.OriginLaws.{cells_by_origins, greatest_once, origins_moved, resolved_says, said_mapped}
pub use Rattle.overlay_laws.proofs.PartLaws.{parts_done}
pub use Rattle.overlay_laws.proofs.ReadLaws.{kept_read, read_slice, window_answer}
pub use Rattle.overlay_laws.proofs.RegionLaws.{coordinate_row}
pub use Rattle.overlay_laws.proofs.RoomLaws.{puts_room}
pub use Rattle.overlay_laws.proofs.SaidLaws.{cells_long, one_said, said_in_any_order, said_is, same_file, same_said, says_some}
pub use Rattle.overlay_laws.proofs.ShareLaws.{no_pair_once}
pub use Rattle.overlay_laws.proofs.WalkLaws.{drop_first, filter_all, filter_none, filter_same, filter_two, sieved_walked, take_first, windows_walked}
pub use Rattle.overlay_laws.proofs.WindowCounts.{count_is, stores_before, stores_more, window_inside, windows_of, windows_reach}
pub use Rattle.overlay_laws.proofs.WindowHulls.{window_short}
pub use Rattle.overlay_laws.proofs.WindowLaws.{append_within, clips_from, clips_in, clips_within, moved_said, none_below, none_past, said_by_joined, said_joined, within_lowered, within_more}
pub use Rattle.overlay_laws.specs.Changes.{IsBegun, IsBetween, load_calls, store_calls}
pub use Rattle.overlay_laws.specs.Entries.{AreOf, HaveSame, In, IsGathered, IsRun, IsRunFrom, Source, cell_of, cells_of_puts, got_cell, ranges}
pub use Rattle.overlay_laws.specs.Hulls.{AreHints, IsAscending}
pub use Rattle.overlay_laws.specs.Lines.{EndBelow, IsByPlace, IsInLine, extents}
pub use Rattle.overlay_laws.specs.Origins.{AreFound, AtMost, IsGreatest, IsInOrder, IsOnceEach, IsResolved, Origin, byte_at, origins, origins_of}
pub use Rattle.overlay_laws.specs.Parts.{joined}
pub use Rattle.overlay_laws.specs.Walks.{IsCover, above, below, end_after, first_at, is_single, round_end, told_of, walked}
pub use Rattle.overlay_laws.specs.Windows.{HasPlace, IsPart, clip, clips}
