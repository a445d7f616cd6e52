-- What the proofs of other crates take from here.
pub use Rattle.script_spec.proofs.CallTableLaws.{HasNoRegion, IsRow, found_row, is_sized, made_behind, made_no_post, made_no_values, made_word, of_row}
pub use Rattle.script_spec.proofs.NumeralLaws.{below_read, digit_bounds, natural_small, no_sum, sixteens, sixteens-le, size_read, tens, tens-fits}
pub use Rattle.script_spec.proofs.TextLaws.{faultless_some, finished, first_line_kept, more_words, none_posted, one_posted}
pub use Rattle.script_spec.specs.CallTable.{Behind, CallRow, Family, Name, Nothing, Record, Requests, Size, call_table, in_row, of_behind, row_of_text}
pub use Rattle.script_spec.specs.Generator.{call_got, call_put, default_hints, elements_given, first_row, has_counts, is_counted, made_calls, made_header, made_script, over_calls, posted_elements, precip_at, refusals, sum_given, sum_of, summary_text, temp_at}
pub use Rattle.script_spec.specs.HintTable.{Either, HintForm, HintRow, Within, flag, hint_form, hint_in, hint_of_text, hint_or, hint_table, hints_of, no_hints, no_row, none_given, off_or_on, refuse_or_serial, rule_number, rule_of, set_hints, shown_value}
pub use Rattle.script_spec.specs.ScriptCalls.{Called, after_prefix, before_suffix, behind, call_line, call_of, called_after, calls_of, choice, differs_at, first_difference, form_and_all, form_of_text, forms, get_call, given_of, given_parts, id_of_post, id_of_text, ids, is_difference, is_posted, kind_at, many_regions, mismatch, new_id, one_id, part, part_list, plain_call, post_call, post_of_text, post_values, posted, put_call, rank_of_text, region, row_call, with_call}
pub use Rattle.script_spec.specs.ScriptDefinitions.{Added, Defined, Known, Title, added_shape, addition, att_addition, att_line, attr_of, attribute, attribute_name, definition, definition_or_addition, dim_addition, dim_definition, dim_ids, dim_line, dim_names, external_bytes, fill_line, hint_line, hint_value, is_added_record, is_among, is_record_dim, is_unlimited, known_after, length_of_text, name_list, no_definition, nothing_added, nothing_known, number_within, one_of_two, owner_name, owner_of_text, owner_place, ranks_line, same_title, shape, type_of, var_addition, var_definition, var_head, var_line, var_names, with_attr_at, with_attr_of_owner, with_dim, with_title, with_var}
pub use Rattle.script_spec.specs.ScriptGrammar.{Reads, at_line, call_step, data_line, data_part, definition_step, definitions, fault_of, finish, head, header_of, most_bytes, most_lines, newlines, no_calls, script_fault, script_of, script_of_lines, script_of_text, script_of_utf8, version_line, version_of_text, within_lines, without_head}
pub use Rattle.script_spec.specs.ScriptSteps.{bare, ended, list, name, name_of_text, next, or_fault, reads_as, refuse_if, size, whole, ◌>>=◌}
pub use Rattle.script_spec.specs.ScriptValues.{are_numbers, are_patterns, are_text, begins_x, bits_values, each_value, is_pattern_term, is_term, last_number, last_pattern, listed_kind, listed_values, may_be, may_have, number_for, number_values, numbers_between, one_value, pattern_for, pattern_sequence, pattern_term, pattern_values, patterns_between, seq_values, sequence, sequence_count, seqx_values, term, text_values, values, within_limits, wrong_kind}
pub use Rattle.script_spec.specs.ScriptWords.{AfterBackslash, Between, Broken, FirstHex, Line, Plain, Quoted, SecondHex, TextState, Word, after_blanks, all_some, begins_blank, begins_rank, below, between_brackets, bits_of_text, digits_value, escape, first_word, hex_sum, hex_value, in_name, is_blank, is_comma, is_comment, is_digit, is_digits, is_name, is_newline, is_word, line_of, list_of_text, natural_of, number_of_text, parts, quoted_word, significant, significant_of, size_of_text, starts_name, text_from, text_lines, without_empty_end, words, words_within}
pub use Rattle.script_spec.specs.Shown.{attr_values, bracketed, call_words, choice_words, form_words, part_words, pieces, region_words, shown, shown_attr, shown_call, shown_definitions, shown_dim, shown_extra, shown_hint, shown_hints, shown_values, shown_var, size_list, words_behind}
pub use Rattle.script_spec.specs.Texts.{call_lines, call_word, code_word, digits_of, digits_of_name, digits_of_var, dim_length_line, dim_name, extent_of, form_word, header_line, hex, hex_digit, in_brackets, item_line, joined, kind_word, layout_line, line, mark_word, offsets_text, option_words, outcome, quoted, rank_lines, reading_line, redef_line, run_text, script_line, text_char, text_line, type_word, value_words, var_lines, watch_text, watcher_lines, with_all}
