-- The words of this crate's proofs, from where they stand.
pub use Rattle.list_laws.proofs.Std.{AllByRecursion, Bool, Err, IfOk-weaker, List, None, Ok, Option, Result, Some, [], and_from, ap, arith, bytes_eq, bytes_eq-Decides, codes, cond, cond_some, drop, enumerate_from, eq-or-lt_of_le, false, filter_map-append, ints, le_of_eq, length, length-append, length-enumerate_from, length-map, length-map-range_with_len, length-replicate, list_all, list_any, list_any-append, lt-leb, map, map_push, min, nat_tests, neg_ℤ, negsuc, not, not-false, not-true, not_from_false, pos, position_or_len, prefix_len, range_with_len, refl, replicate, same_Some, slice_set, subst, suc, sum, sum_by-cons, sum_by_push, sym, take, true, true≢false, unsigned_abs, utf8_valid_len, zero, ℕ, ℤ, ◌%◌, ◌&&◌, ◌*ℤ◌, ◌*◌, ◌++◌, ◌+ℤ◌, ◌+◌, ◌<◌, ◌^◌, ◌∙◌, ◌∷◌, ◌≡◌, ◌≤◌, leb-false, le-ltb, leb-true, common_steps}
pub use Rattle.std.proofs.Common.{IfOk, IfSome, append-nil, count_by, eq-eqb, eqb-true, find, flat_map, is_some, le-leb, length-set, lt-ltb, ltb-false, ltb-true, mul-le-mul_left, nat_le, nat_lt, option_and_then, option_map, position, slice_get, unwrap_or, ◌==◌}
pub use Rattle.list_laws.proofs.Common.{and_first, and_second, each_at, each_fails, each_later, each_passes, each_push, each_weaker, fails_each, found_passes, get_left, if_some_at, none_before_map, not_some, or_first_false, or_second_false, position_below, untold}
pub use Rattle.list_laws.proofs.Types.{Attr, Bits, Bput, Call, Dim, Form, Iget, Iput, MeetKind, NcType, Numbers, Part, PostKind, Script, ScriptErr, ScriptKind, Text, Values, Var, count_of}
pub use Rattle.script_spec.proofs.Common.{Added, Broken, Called, Defined, Either, Family, HintForm, Known, Line, Name, Nothing, Plain, Quoted, Reads, Record, Requests, Size, Title, Within, Word, added_shape, addition, after_prefix, all_some, are_numbers, are_patterns, are_text, at_line, att_addition, att_line, attr_of, attribute, attribute_name, bare, behind, below_read, between_brackets, bits_of_text, call_line, call_of, call_step, called_after, calls_of, choice, data_line, data_part, definition, definition_step, definitions, differs_at, dim_addition, dim_definition, dim_ids, dim_line, dim_names, each_value, ended, external_bytes, faultless_some, fill_line, finish, finished, first_difference, form_and_all, form_of_text, found_row, get_call, given_of, given_parts, head, header_of, hint_form, hint_in, hint_line, hint_of_text, hint_or, hint_value, hints_of, id_of_post, in_name, is_among, is_difference, is_name, is_pattern_term, is_posted, is_record_dim, is_sized, is_term, is_unlimited, kind_at, known_after, last_number, last_pattern, length_of_text, line_of, list, list_of_text, listed_kind, listed_values, made_no_post, made_no_values, many_regions, may_be, mismatch, most_bytes, most_lines, name, name_list, name_of_text, natural_of, natural_small, new_id, newlines, next, no_calls, no_definition, none_posted, nothing_added, nothing_known, number_for, number_of_text, number_within, numbers_between, one_of_two, one_posted, one_value, or_fault, owner_name, owner_of_text, owner_place, part, part_list, parts, pattern_for, pattern_term, pattern_values, patterns_between, plain_call, post_call, post_of_text, post_values, posted, put_call, rank_of_text, ranks_line, reads_as, refuse_if, region, row_of_text, script_of, script_of_lines, script_of_text, script_of_utf8, seq_values, sequence, sequence_count, seqx_values, shape, significant, significant_of, size, size_of_text, size_read, starts_name, term, text_lines, text_values, type_of, type_word, values, var_addition, var_definition, var_head, var_line, var_names, version_of_text, whole, with_attr_at, with_attr_of_owner, with_call, with_dim, with_title, with_var, within_limits, within_lines, words, wrong_kind, ◌>>=◌}
pub use Rattle.serial_spec.proofs.Common.{Class, added_dims, added_vars, agree, are_different, are_lawful_hints, are_sizes, are_values, attr_values, bad_id, counts_are_small, ext, ext_long, extra_values, file_limit, fits_count, has_lists_of, has_whole_attrs, is_alignment, is_dim, is_empty, is_given, is_lawful, is_lawful_call, is_lawful_dim, is_lawful_extra, is_lawful_header, is_lawful_var, is_nothing_defined, is_number, is_part, is_post_of, is_size, is_type, is_var, is_version, is_whole_attr, is_whole_extra, is_within, is_writable_attr, is_writable_dim, is_writable_list, kind_number, kind_numbers, kinds, last_type, length_of, most_calls, most_dims, most_dims_of_var, most_elements, most_parts, most_values, most_vars, number_of, posted_ids, record_later, record_limit, size_of, two_record_dims, types, values_in_call, values_in_extra, values_in_script}
pub use Rattle.var_layout.specs.Unplaced.{has_writable_names, has_writable_parts, is_unplaced}
