-- What the proofs of other crates take from here.
pub use Rattle.serial_spec.proofs.AcceptLaws.{accepted, accepted_elements, coordinates_all, post_inside}
pub use Rattle.serial_spec.proofs.AddedLaws.{in_front, redefined_keeps}
pub use Rattle.serial_spec.proofs.ApartLaws.{elements_apart, elements_past_header, index_fixed, index_record, none_from, none_shared, none_with, past_header, slab_fits}
pub use Rattle.serial_spec.proofs.BoxLaws.{boxes_right}
pub use Rattle.serial_spec.proofs.CellLaws.{IsOrApart, read_at, read_long, read_same}
pub use Rattle.serial_spec.proofs.CountLaws.{greatest_joined, known_less, no_need, raised_file, raised_records, some_limit}
pub use Rattle.serial_spec.proofs.ElementLaws.{coordinates_at, length-coordinates}
pub use Rattle.serial_spec.proofs.FaultLaws.{EndsWrong, ends_later, ends_on, fault_only, len_pos, right_fits, run_on, run_whole}
pub use Rattle.serial_spec.proofs.FileLaws.{at-longer, at-written_after, at-written_before, get_or-written_above, get_or-written_below, get_or-written_within, length-written_inside, longer-enough, longer_long, write_none, written-front, written-inside}
pub use Rattle.serial_spec.proofs.GrowLaws.{after_grows, after_long, mark_grows, raised_grows, written_grows}
pub use Rattle.serial_spec.proofs.KeepLaws.{after_keeps, count_long, puts_keep, raised_keeps}
pub use Rattle.serial_spec.proofs.KeyLaws.{key_equal, key_itself}
pub use Rattle.serial_spec.proofs.LawfulTests.{lawful_hints, lawful_parts, some_rank, within_is}
pub use Rattle.serial_spec.proofs.LengthLaws.{size_most, size_pos, spelling_long, width_long}
pub use Rattle.serial_spec.proofs.MemberLaws.{any_member, at_in, filter_in, in_at, in_filter}
pub use Rattle.serial_spec.proofs.MoveLaws.{redefined_is, resized}
pub use Rattle.serial_spec.proofs.OnceLaws.{spells_once}
pub use Rattle.serial_spec.proofs.PairLaws.{below_through, pair_found, pair_none, pair_only, same_pair}
pub use Rattle.serial_spec.proofs.RoomLaws.{element_inside, end_fixed, end_grows, end_holds, greatest_holds, index_is_element, known_of, none_later, slab_below, slab_shared, some_record}
pub use Rattle.serial_spec.proofs.RowLaws.{row_below, row_once}
pub use Rattle.serial_spec.proofs.SaidLaws.{at-written_inside, byte_or_later, cells_said, one_hit, post_says, puts_are_cells, puts_said, puts_say, range_and_rest, said_append, said_below, said_inside, said_past, taken_long}
pub use Rattle.serial_spec.proofs.SpellingLaws.{both, canon_spelled, known_version}
pub use Rattle.serial_spec.proofs.ValueLaws.{be_long, ext_long, found_long, val-ext}
pub use Rattle.serial_spec.specs.DeviceCalls.{Slab, all_calls, calls_from, collective_windows, domain_size, domains, first_of, get_bytes, gets_of, grow_to, head_load, highest_first, hull_len, in_order, last_of, loads, mark_calls, meeting_calls, move_calls, move_window, not_empty, opening_calls, overlays, put_calls, redefining_calls, run_before, run_calls, runs, sieved, sieving_windows, slabs, slabs_of, solo_calls, stands_above, store_records, stores, window_count, windows, zero_calls}
pub use Rattle.serial_spec.specs.Examples.{dataset_a}
pub use Rattle.serial_spec.specs.Extents.{IsOnce, spans}
pub use Rattle.serial_spec.specs.ExternalForm.{Class, Signed, Unsigned, class_of, code_of, ext, fits, fits_in, size_of, types, val, width_of}
pub use Rattle.serial_spec.specs.File.{at, longer, read, written}
pub use Rattle.serial_spec.specs.FileStep.{Counted, Setting, after_puts, end_for, get_post, get_some, known_by, meeting, needs, put_post, put_some, puts_of, raised, raises, solo, told, told_under}
pub use Rattle.serial_spec.specs.Fill.{box_indices, boxes, default_fill, fill_bytes, fill_var, filled, in_row, is_fill_value, share_begin, shifted, whole_rows}
pub use Rattle.serial_spec.specs.HeaderBytes.{attribute, begin_width, count, count_width, dimension, header_len, is_version, last_type, list_of, magic, name, number_of, padded, tag, variable}
unfoldable pub use Rattle.serial_spec.specs.HeaderBytes.{canon}
pub use Rattle.serial_spec.specs.HeaderFaults.{Ask, AttrCount, AttrType, Attributes, Begin, Block, Count, DimCount, DimId, DimLength, Dimensions, Entries, Field, HasFault, HasFieldFault, Ids, Magic, Many, NameLength, One, Records, Run, Tag, VarType, Variables, Vsize, after_field, asked, bad_id, bad_type, big_endian, block, fault_if, field_fault, field_len, field_number, first_check, first_field, first_with, is_above, is_negative, is_record_id, is_too_large, keeps_bound, many, measure, most_of, other_fields, past_bound, record_later, stands, tag_of, takes, the_header, two_record_dims, type_size, version_of, wrong, wrong_at}
pub use Rattle.serial_spec.specs.HeaderGrammar.{AnyBytes, AttributeOf, DimensionOf, Each, Exactly, Joined, ListOf, NameOf, Number, Padded, RecordsOf, Spells, TypeOf, VariableOf, all_ones, ◌▹◌}
pub use Rattle.serial_spec.specs.History.{Arrival, IsLegal, all_met, concerns, done, done_after, is_collective, is_data, is_meeting, is_of_rank_below, is_offer, kind_number, kind_of_call, kind_of_meeting, kinds, mark_of, marks, marks_from, meeting_kind, meetings_of, mode_after, offer_of}
pub use Rattle.serial_spec.specs.Joined.{HasEnd, IsAgreed, IsJoined, IsTied, back_of, opening_owner, rank_ends, run_of}
pub use Rattle.serial_spec.specs.Lawful.{IsLawful, added_dims, added_vars, agree, are_different, are_lawful_hints, are_sizes, are_values, attr_values, extra_values, has_its_lists, has_lists_of, has_whole_attrs, id_posted, is_alignment, is_dim, is_given, is_lawful, is_lawful_call, is_lawful_dim, is_lawful_extra, is_lawful_header, is_lawful_var, is_nothing, is_nothing_defined, is_number, is_part, is_post_of, is_size, is_var, is_whole_attr, is_whole_extra, is_within, kind_numbers, most_calls, most_parts, most_ranks, most_values, posted_ids, values_in_call, values_in_extra, values_in_script}
pub use Rattle.serial_spec.specs.Layout.{begin_of, begins, end_of, end_of_fixed, end_of_var, fixed_variables, greatest, inner_lengths, is_record, last_share, length_of, lengths, lengths_of, meet, placed, product, record_share, record_size, record_slabs, record_variables, records_meet, recsize, round_up, share, sharing, sharing_from, sharing_with, slab, starts_with_zero, vsize, without_record}
pub use Rattle.serial_spec.specs.Limits.{file_limit, most_dims, most_dims_of_var, most_elements, most_header_bytes, most_vars, record_limit}
pub use Rattle.serial_spec.specs.Lists.{In, first_true, inserted_by, is_empty}
pub use Rattle.serial_spec.specs.Looks.{Asks, Empty, Look, Refused, box_post, box_region, data_bytes, data_code, direction_of, fills, find_dim, find_var, is_record_past, is_varn, kind_code, look, look_at, look_fill, look_parts, look_record, look_region, part_posts, parts_code, some_fits, values_bytes, values_code}
pub use Rattle.serial_spec.specs.Owner.{Client, Ending, Event, IsGivenInPart, IsSingleOffer, OnlyReplies, Owner, at_item, at_offer, bad_batch, differs, does_meeting, does_solo, event_at, first_owner, free_client, freed, given_along, has_ended, has_held, has_left, holds, keeps, kind_held, left_behind, left_by, meets_if, needed_now, offers_at, offers_held, offers_in, offers_met, owed, own_items, refused, same_kind, served, some_true, step_offers, stop_held, stops, to_each, to_one, wrong_length}
unfoldable pub use Rattle.serial_spec.specs.Owner.{event, is_strange, strange_offer}
pub use Rattle.serial_spec.specs.Place.{AreApart, HasRecord, IsElement, IsElementBelow, IsIndex, place, record_of, row, within_record}
pub use Rattle.serial_spec.specs.RankMachine.{Gone, NullRequest, Open, Posted, Rank, Status, Waiting, answer, answers, attach_code, batch_chosen, batch_of, buffer_code, buffered, bytes_in, chosen, code_of_look, detach_code, dim_at, gets_in, got_values, has_id, hear, hear_open, is_bput, is_chosen, is_waiting, item_code, items_from, items_of, kind_at, meets_refused, named, no_posts, offers, offers_look, open_blocking, open_empty, pending, post_after, posts, posts_of, puts_in, status_of, step, values_for, values_of_post, waiting_ids, waits, wants, with_its_values, with_more, with_posted, without_chosen}
pub use Rattle.serial_spec.specs.RankSide.{DoesFit, Side, end_by, ends_by, fits_offer, offered, offered_by, rank_end, rank_stop, side, side_by, stop_by, waiting, waiting_end, waiting_side, waiting_stop, wanted}
pub use Rattle.serial_spec.specs.Readings.{last_count, told_of}
pub use Rattle.serial_spec.specs.Records.{needed, needed_by, records_of, records_of_some, with_records}
pub use Rattle.serial_spec.specs.Redefinition.{IsRedefined, KeepsVars, Moves, Numbered, added, all_indices, attrs_of_var, begin_at, begin_of_number, begins_before, begins_by_number, brought, by_begin, dim_id, extra_fault, extras_fault, extras_from, first_record, fixed_begins, fixed_of, fixed_order, front_after, has_attr, has_bad_kind, has_bad_shape, is_bad_begin, is_far_begin, is_large_var, is_one_too_many, is_taken, is_unknown, layout_fault, moved, new_of, old_of, record_begins, records_in, redefined, redefined_fault, redefined_header, size_fault, with_begins, with_extra, with_var_attr}
pub use Rattle.serial_spec.specs.Refusal.{IsRefusal}
pub use Rattle.serial_spec.specs.RegionCheck.{asks_too_much, bad_edge, bad_start, bound, bounds, check, check_parts, check_some, check_var, elements_of_all, error_of, first_code, first_refusal, has_element, has_index, is_ok_code, is_put, known_lengths, last_position, other_shape, part_region, part_regions, share_element, some_edge, some_start, widen}
pub use Rattle.serial_spec.specs.Request.{cells, code_in, coordinates, elements, ext_of, gathered, get, index_at, number_in, packed_bytes, places, position_at, positions, put, reach, spread, value_at}
pub use Rattle.serial_spec.specs.Said.{Cell, IsFrom, IsOneValued, IsWithin, Says, byte_or, moved_down, one_says, said_at, said_by, write_cells}
pub use Rattle.serial_spec.specs.SerialEnd.{End, Going, advance, after_mark, after_meeting, after_solo, close_by, closed, count_after, first_going, first_state, go, hears, offers_of, rank_offer, serial, serial_from, setting_of, solo_of, start, state_after}
pub use Rattle.serial_spec.specs.SharedByte.{Holding, Holds, IsOwnOnce, IsSharedPair, IsUnshared, Key, Puts, all_bytes, bytes_of, bytes_of_some, covered, distinct, first_end, has_byte, holders, holdings, holdings_of_entries, is_shared, key_below, least, lesser_key, said_by_puts, same_key, second_end, shared_pair, shared_pair_of}
pub use Rattle.serial_spec.specs.SoundHeaders.{counts_are_small, fits_count, fits_field, is_redefinable, is_redefinable_var, is_sound, is_type, is_writable, is_writable_attr, is_writable_dim, is_writable_list, is_writable_var}
pub use Rattle.serial_spec.specs.Torn.{Begins, HasAnswers, HasAnswersOfEach, IsBegun, IsCutRun, IsLeft, IsLengthened, IsTorn, IsTornCreation, IsTornRedefinition, OwnerStoodAt, StoodAt, bytes_of_mark, may_change}
pub use Rattle.serial_spec.specs.Torn.OwnerStoodAt.{at_arrival, between_arrivals}
pub use Rattle.serial_spec.specs.Torn.StoodAt.{in_close, in_step}
