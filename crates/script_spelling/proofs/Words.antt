-- The words of this crate's proofs, from where they stand.
pub use Rattle.list_laws.proofs.Std.{AllPass-from_list_all, AllZip, Bool, Err, IsAscii, IsAscii-from_all, IsUtf8, IsUtf8-from_ascii, IsUtf8-from_is_utf8, List, None, Ok, Option, Result, Some, [], agree_below_at, and_from, and_left, and_parts, and_right, ap, append_assoc, arith, bytes_eq, bytes_eq-Decides, cases_Bool, codes, common_steps, cond, cond-false, cond-true, cond_some, cons_option, decimal, drop, enumerate_from, eq-eqb, eqb-true, false, filter_map-append, get_or, inl, inr, ints, is_utf8, le-leb, le-ltb, leb-true, length, length-append, length-map, length-map-range_with_len, length-replicate, length-slice_split, list_all, list_all-append, list_all-map, list_any, list_any-append, lt-leb, lt-ltb, ltb-true, map, map-append, nat_tests, ne_eqb, neg_ℤ, negsuc, not, not-true, not_from_false, or_cases, or_from, or_left, or_parts, or_right, pos, range_with_len, refl, replicate, same_Some, set_at, signed_decimal, slice_set, slice_split_at, subst, suc, sum, sum_by-cons, sym, take, take-append-drop, true, unsigned_abs, utf8_valid_len, utf8_valid_len-IsUtf8, valid_len_up_to, zero, ℕ, ℤ, ◌%◌, ◌&&◌, ◌*ℤ◌, ◌*◌, ◌++◌, ◌+ℤ◌, ◌+◌, ◌-◌, ◌/◌, ◌<◌, ◌^◌, ◌||◌, ◌∙◌, ◌∷◌, ◌≡◌, ◌≤◌, ◌⊎◌, ltb-false, not-false, leb-false}
pub use Rattle.std.proofs.Common.{append-nil, find, flat_map, fold, is_none, is_some, length-set, nat_le, nat_lt, option_map, position, slice_get, take_all, unwrap_or, ◌==◌}
pub use Rattle.list_laws.proofs.Common.{get_left, all_joined, entry_below, entry_numbered, entry_set, entry_set_other, equal_itself, equal_true, first_same, found_passes, none_of_test, not_some, passes_at, position_below, some_not_none, some_of_map}
pub use Rattle.list_laws.proofs.Types.{Attr, Bits, Bput, Call, Choice, Dim, Every, Extra, Form, Given, Hints, Iget, Int, Iput, Listed, MeetKind, NcType, Numbers, OverlapRule, Part, PostKind, Refuse, Script, ScriptErr, ScriptKind, Serial, Text, UByte, Values, Var, count_of}
pub use Rattle.script_laws.proofs.LawfulLaws.{read_lawful}
pub use Rattle.script_laws.proofs.ListLaws.{sum_cons, sum_more}
pub use Rattle.script_spec.proofs.Common.{Added, Behind, Broken, CallRow, Called, Defined, Either, Family, HasNoRegion, HintForm, HintRow, IsRow, Known, Line, Name, Nothing, Plain, Quoted, Reads, Record, Requests, Size, Title, Within, Word, added_shape, addition, after_prefix, all_some, are_numbers, are_patterns, are_text, at_line, att_addition, att_line, attr_of, attribute, attribute_name, bare, before_suffix, begins_rank, begins_x, behind, between_brackets, bits_of_text, bits_values, bracketed, call_line, call_of, call_step, call_table, call_word, called_after, calls_of, choice, choice_words, data_line, data_part, definition, definition_or_addition, definition_step, definitions, differs_at, digits_value, dim_addition, dim_definition, dim_ids, dim_line, dim_names, each_value, ended, fault_of, faultless_some, fill_line, finish, finished, first_line_kept, flag, form_and_all, form_of_text, form_word, form_words, forms, found_row, get_call, given_of, given_parts, head, header_of, hex, hex_digit, hex_sum, hint_form, hint_in, hint_line, hint_of_text, hint_or, hint_table, hint_value, hints_of, id_of_text, ids, is_added_record, is_among, is_comment, is_difference, is_digit, is_name, is_newline, is_pattern_term, is_posted, is_record_dim, is_term, is_unlimited, is_word, joined, kind_at, kind_word, known_after, last_number, last_pattern, length_of_text, line, line_of, list, list_of_text, listed_kind, listed_values, made_behind, made_word, many_regions, may_be, may_have, mismatch, most_bytes, most_lines, name, name_list, name_of_text, natural_of, new_id, next, no_calls, no_definition, no_hints, no_row, none_given, nothing_added, nothing_known, number_for, number_of_text, number_values, number_within, numbers_between, of_behind, of_row, off_or_on, one_id, one_of_two, one_value, or_fault, owner_name, owner_of_text, owner_place, part, part_list, part_words, parts, pattern_for, pattern_sequence, pattern_term, pattern_values, patterns_between, plain_call, post_call, post_of_text, post_values, posted, put_call, rank_of_text, ranks_line, reads_as, refuse_if, refuse_or_serial, region, row_call, row_of_text, rule_number, rule_of, same_title, script_fault, script_of, script_of_lines, script_of_text, seq_values, sequence, sequence_count, seqx_values, set_hints, shape, shown, shown_attr, shown_call, shown_extra, shown_hint, shown_hints, shown_value, shown_values, significant, significant_of, sixteens, size, size_list, size_of_text, term, text_char, text_lines, text_values, type_of, type_word, values, var_addition, var_definition, var_head, var_line, var_names, version_line, version_of_text, whole, with_all, with_attr_at, with_attr_of_owner, with_call, with_dim, with_title, with_var, within_limits, words, wrong_kind, ◌>>=◌}
pub use Rattle.script_spelling.specs.Described.{Describes, IsVarOf, ToDataset, at_most_one, attrs_of, calls_in, dims_in, extras_in, fills_in, hint_values, own_attrs, ranks_in, vars_in}
pub use Rattle.script_spelling.specs.SpelledCalls.{SpellsBehind, SpellsCall, SpellsCallLine, SpellsChoice, SpellsInRow, SpellsPlace, SpellsPlain, SpellsPosted}
pub use Rattle.script_spelling.specs.SpelledValues.{Each, OfBitSequence, OfBits, OfNothing, OfNumbers, OfSequence, OfText, SpellsBitSequence, SpellsForm, SpellsOne, SpellsRegion, SpellsSequence, SpellsValues}
pub use Rattle.script_spelling.specs.Spelling.{Sections, Spells, SpellsHead, lines_of, version_of_lines}
pub use Rattle.script_spelling.specs.Statements.{AttIs, DimIs, DimStands, HintIs, IsFilled, IsOwner, RanksAre, Says, Stand, Statement, VarIs, VarLine, VarStands, hint_value_of, owner_word, title_of}
pub use Rattle.serial_spec.proofs.Common.{Class, agree, are_different, are_lawful_hints, are_values, attr_values, class_of, extra_values, fits_in, has_its_lists, has_lists_of, is_alignment, is_empty, is_given, is_lawful, is_lawful_call, is_lawful_dim, is_lawful_header, is_lawful_var, is_nothing, is_post_of, is_version, is_within, kind_number, kind_numbers, kinds, lawful_parts, most_dims, most_dims_of_var, most_elements, most_parts, most_values, most_vars, posted_ids, size_of, values_in_call, values_in_extra, values_in_script}
pub use Rattle.std.specs.List.{All}
pub use Rattle.std.proofs.lemmas.List.Concat.{flat_map-append}
