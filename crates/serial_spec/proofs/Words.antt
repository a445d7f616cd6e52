-- The words of this crate's proofs, from where they stand.
pub use Rattle.list_laws.proofs.Std.{AllByRecursion, Bool, IsTrue, List, MatchBool, None, Option, Some, Width, [], add-mul, and_from, ap, append-nil, append_assoc, arith, byte_len, cases_eq, cast_signed, cast_unsigned, common_steps, cond, div-add-mod', drop, drop-append-add, drop-append-le, drop-drop, enumerate_from, eq-eqb, eqb-false, eqb-true, false, filter, find, flat_map, flat_map-append, fold, fold-append, from_be_bytes, from_be_bytes-to_be_bytes_2, from_be_bytes-to_be_bytes_4, from_be_bytes-to_be_bytes_8, get_or, get_or-append_right, get_or-drop, get_or-take, get_or_append_left, if◌then◌else◌, inl, inr, le-div, le-leb, le_of_mul-le-mul_right, leb-false, leb-true, leb_tells, length, length-append, length-drop, length-map, length-range_with_len, length-replicate, length-take, list_all, list_any, list_any-append, lit<, lt-ltb, map, map-append, max, min, mod_below, mul-add-lt, mul-le, mul-le-mul_right, nat_le, nat_lt, nat_tests, negsuc, not, not-false, not-true, not_from_false, option_map, option_or, or_cases, or_left, or_right, pos, position, position_from, position_from-zero, range_with_len, refl, replicate, row_fits, same_from_place, same_number_lists, set, slice_get, slice_index, subst, suc, sum_by, sym, take, take-append-add, take-append-drop, take-append-le, to_be_bytes, to_z-of_z, true, w128, w16, w32, w64, w8, zero, zip, ℕ, ℤ, ◌%◌, ◌&&◌, ◌*◌, ◌++◌, ◌+◌, ◌-◌, ◌/◌, ◌<◌, ◌==◌, ◌^◌, ◌||◌, ◌∙◌, ◌∷◌, ◌≡◌, ◌≤◌, ◌⊎◌, ltb-false, ltb-true}
pub use Rattle.std.specs.Prelude.{FitsSigned, bytes_eq, sum}
pub use Rattle.list_laws.proofs.Common.{and_first, and_second, append_parts, both_none, each_append, each_flat_map, each_map, each_weaker, either, entry_map, entry_numbered, entry_zip, equal_above, equal_below, equal_suc, equal_zero, fails_each, first_counts, flat_same, get_left, get_right, holds_or_not, if_some_at, le_two, map_map, neither_some, no_false, no_none_some, none_before_map, none_last, none_of_test, option_or_assoc, or_first_false, or_second_false, part, part_joined, part_map, part_none, pieces_long, second_counts, some_factor, some_or_none, take_at_most, told_else}
pub use Rattle.list_laws.proofs.Types.{Answer, Att, Attr, Byte, Char, Code, Dim, Direction, Disk, Double, Extra, Float, Get, Header, HeaderErr, Int, Int64, Mark, Meet, NcType, Offer, OfferKind, Ok, Pair, Part, Post, Put, Region, Script, Short, Solo, Truncated, UByte, UInt, UInt64, UShort, Value, Var}
pub use Rattle.serial_spec.specs.EdgeExamples.{dataset_a_at, file_a, met_by_the_last, two_fixed_at, var_at, whole_then_ends}
pub use Rattle.serial_spec.specs.Examples.{dataset_a, dataset_aq, dim, file_halves, header_a, header_a_with, int_bytes, more_var, odd_header_a, title, two_alone, var, word}
pub use Rattle.serial_spec.specs.ExternalForm.{Class, Pattern, Signed, Text, Unsigned, code_of, ext, fits, fits_in, size_of, val, value_of, width_of}
pub use Rattle.serial_spec.specs.File.{at, longer, read, written}
pub use Rattle.serial_spec.specs.FileStep.{Counted, Setting, after_puts, end_for, known_by, meeting, needs, put_post, put_some, puts_of, raised, solo, told}
pub use Rattle.serial_spec.specs.Fill.{AreBoxes, box_indices, boxes, default_fill, in_row, is_fill_value, shifted, whole_rows}
pub use Rattle.serial_spec.specs.HeaderBytes.{attribute, begin_width, count, count_width, dimension, header_len, is_version, list_of, magic, name, number_of, padded, tag, variable}
unfoldable pub use Rattle.serial_spec.specs.HeaderBytes.{canon}
pub use Rattle.serial_spec.specs.HeaderFaults.{Ask, Field, HasFieldFault, Run, after_field, asked, bad_id, fault_if, field_fault, field_len, field_number, first_check, first_with, first_wrong, is_record_id, record_later, stands, takes, the_header, two_record_dims, version_of, wrong_at}
pub use Rattle.serial_spec.specs.HeaderGrammar.{AnyBytes, AttributeOf, DimensionOf, Each, Exactly, Joined, ListOf, NameOf, Number, Padded, RecordsOf, Spells, TypeOf, VariableOf, ◌▹◌}
pub use Rattle.serial_spec.specs.History.{IsLegal, concerns, marks}
pub use Rattle.serial_spec.specs.Lawful.{IsLawful, added_dims, added_vars, are_lawful_hints, is_lawful, is_within, most_calls, most_ranks, most_values, values_in_script}
pub use Rattle.serial_spec.specs.Layout.{IsSharing, Shares, end_of, end_of_var, greatest, inner_lengths, is_record, last_share, length_of, lengths, meet, product, record_size, record_slabs, records_meet, recsize, round_up, share, sharing, sharing_from, sharing_with, slab, starts_with_zero, vsize, without_record}
pub use Rattle.serial_spec.specs.Limits.{most_dims, most_vars, record_limit}
pub use Rattle.serial_spec.specs.Lists.{In}
pub use Rattle.serial_spec.specs.Owner.{needed_now}
pub use Rattle.serial_spec.specs.Place.{AreApart, HasRecord, IsElement, IsElementBelow, IsIndex, place, record_of, row, within_record}
pub use Rattle.serial_spec.specs.RankMachine.{answer}
pub use Rattle.serial_spec.specs.Records.{needed, needed_by, records_of, records_of_some, with_records}
pub use Rattle.serial_spec.specs.Redefinition.{IsRedefined, KeepsVars, Moves, added, all_indices, begin_of_number, begins_by_number, moved, redefined, redefined_header, with_begins, with_extra, with_var_attr}
pub use Rattle.serial_spec.specs.RegionCheck.{asks_too_much, bad_edge, bound, bounds, check, check_some, check_var, first_code, known_lengths, other_shape, some_edge, some_start}
pub use Rattle.serial_spec.specs.Request.{cells, coordinates, elements, index_at, places}
pub use Rattle.serial_spec.specs.Said.{Cell, byte_or, one_says, said_at, said_by, write_cells}
pub use Rattle.serial_spec.specs.SerialEnd.{Going, advance, after_mark, offers_of, setting_of, state_after}
pub use Rattle.serial_spec.specs.SharedByte.{Holding, Holds, IsSharedPair, IsUnshared, Key, Puts, all_bytes, bytes_of, bytes_of_some, covered, distinct, first_end, has_byte, holders, is_shared, key_below, least, least_key, lesser_key, pair_at, pair_of, said_by_puts, same_key, second_end, shared_pair_of}
pub use Rattle.serial_spec.specs.SoundHeaders.{fits_count, fits_field, is_redefinable, is_redefinable_var, is_sound, is_type, is_writable, is_writable_attr, is_writable_by, is_writable_dim, is_writable_list, is_writable_var}
pub use Rattle.serial_spec.specs.Torn.{HasAnswers, IsTorn, StoodAt, between, in_close, in_step, may_change}
