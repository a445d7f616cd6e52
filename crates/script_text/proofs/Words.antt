-- The words of this crate's proofs, from where they stand.
pub use Rattle.list_laws.proofs.Std.{AllZip, cons_option, AllPass-from_list_all, Bool, Err, IsAscii, IsAscii-from_all, IsUtf8, IsUtf8-from_ascii, IsUtf8-from_is_utf8, List, None, Ok, Option, Result, Some, [], agree_below_at, and_from, and_left, and_parts, and_right, ap, append_assoc, arith, bytes_eq, cases_Bool, cast_signed, codes, common_steps, cond, cond-false, cond-true, decimal, decimal_by_steps_wide, decimal_nonempty, drop, drop_at, enumerate_from, eq-eqb, eqb-true, false, filter_map-append, fold_push, from_be_bytes, get_or, get_or-enumerate_from, get_or_at, inl, inr, ints, is_utf8, le-leb, leb-true, length, length-append, length-decimal-le_wide, length-enumerate_from, length-map, length-map-range_with_len, length-slice_split, list_all, list_all-append, list_all-map, list_all_at, list_any, list_any-append, lt-ltb, ltb-true, map, nat_tests, ne_eqb, neg_ℤ, negsuc, not, not-true, onto_first, or_cases, or_from, or_left, or_parts, or_right, pos, position_or_len, range_with_len, refl, signed_decimal, slice_split, slice_split_at, slice_split_none, subst, suc, sum, sum_by-cons, sym, take, take_at, true, unsigned_abs, utf8_valid_len-IsUtf8, valid_len_up_to, w16, w32, w64, w8, zero, ℕ, ℤ, ⊎_elim, ◌%◌, ◌&&◌, ◌*◌, ◌++◌, ◌+◌, ◌-◌, ◌/◌, ◌<ℤ◌, ◌<◌, ◌^◌, ◌||◌, ◌∙◌, ◌∷◌, ◌≡◌, ◌≤◌, ◌⊎◌}
pub use Rattle.std.proofs.Common.{append-nil, find, fold, nat_le, nat_lt, option_and_then, option_map, position, take_all, ◌==◌, IfOk}
pub use Rattle.std.proofs.lemmas.List.Concat.{flat_map-append}
pub use Rattle.std.specs.List.{All, flat_map}
unfoldable pub use Rattle.list_laws.proofs.Std.{digits, utf8_valid_len}
pub use Rattle.hint_table.specs.HintNames.{row_of}
pub use Rattle.list_laws.proofs.Common.{all_joined, pieces_long, then_append}
pub use Rattle.list_laws.proofs.Types.{Attr, Bits, Bput, Byte, Call, Char, Choice, Dim, Double, Every, Extra, Float, Form, Given, Header, Hints, Iget, Int, Int64, Iput, Listed, NcType, Numbers, OverlapRule, Part, PostKind, Refuse, Script, ScriptKind, Serial, Short, Text, UByte, UInt, UInt64, UShort, Value, Values, Var}
pub use Rattle.printed_text.proofs.WordLaws.{all_pushed, joined_spaced, next_pushed, spaced_one}
pub use Rattle.printed_text.specs.Spaced.{spaced}
pub use Rattle.script_spec.proofs.Common.{AfterBackslash, Behind, Between, Broken, CallRow, Either, Family, FirstHex, HasNoRegion, HintForm, HintRow, IsRow, Line, Name, Nothing, Plain, Quoted, Reads, Record, Requests, SecondHex, Size, TextState, Title, Within, Word, after_blanks, all_some, are_numbers, are_patterns, are_text, attr_of, attr_values, begins_blank, below, between_brackets, bits_of_text, bracketed, call_word, call_words, choice_words, default_hints, digit_bounds, digits_value, dim_ids, dim_name, dim_names, escape, external_bytes, first_line_kept, first_row, first_word, flag, form_words, header_of, hex, hex_digit, hex_sum, hex_value, hint_form, hint_in, hint_of_text, hint_table, hints_of, id_of_text, in_name, in_row, is_among, is_blank, is_comma, is_comment, is_digit, is_name, is_newline, is_record_dim, is_sized, is_unlimited, joined, length_of_text, line, line_of, list_of_text, made_behind, made_header, made_script, may_be, may_have, more_words, most_bytes, most_lines, natural_of, no_definition, no_sum, number_for, number_of_text, number_within, of_behind, of_row, off_or_on, part_words, parts, pattern_for, pattern_sequence, pattern_values, pieces, precip_at, quoted, quoted_word, reads_as, refuse_or_serial, region_words, rule_number, rule_of, same_title, shown, shown_attr, shown_call, shown_definitions, shown_dim, shown_extra, shown_hint, shown_hints, shown_value, shown_values, shown_var, significant, significant_of, sixteens, sixteens-le, size_list, size_of_text, size_read, starts_name, temp_at, text_char, text_from, text_lines, type_of, type_word, var_names, without_empty_end, words, words_behind, words_within}
pub use Rattle.script_text.specs.CanonicalParts.{value_word}
pub use Rattle.script_text.specs.Expressible.{are_expressible_dims, are_expressible_values, are_expressible_vars, is_expressible, is_expressible_behind, is_expressible_call, is_expressible_choice, is_expressible_header, is_expressible_var, is_id, is_new_name, printed_lines}
pub use Rattle.script_spelling.specs.Described.{calls_in}
pub use Rattle.script_spelling.specs.SpelledCalls.{SpellsBehind, SpellsCall, SpellsCallLine, SpellsChoice, SpellsInRow, SpellsPlain, SpellsPosted}
pub use Rattle.script_spelling.specs.SpelledValues.{Each, OfBitSequence, OfBits, OfNothing, OfNumbers, OfSequence, OfText, SpellsForm, SpellsOne, SpellsValues}
pub use Rattle.serial_spec.proofs.Common.{fits_in, Class, are_lawful_hints, are_values, class_of, code_in, ext, ext_long, fits, gathered, has_its_lists, has_whole_attrs, is_alignment, is_empty, is_given, is_lawful, is_lawful_call, is_lawful_dim, is_lawful_header, is_lawful_var, is_nothing, is_post_of, is_version, is_whole_attr, is_whole_extra, is_within, last_type, most_dims, most_dims_of_var, most_elements, most_parts, most_vars, number_in, number_of, record_limit, size_of, types, val, val-ext}
pub use Rattle.generated_run.proofs.CallLaws.{rank_is, record_is}
pub use Rattle.generated_run.proofs.LawfulLaws.{made_lawful}
pub use Rattle.generated_run.proofs.MadeLaws.{script_is}
pub use Rattle.generated_run.proofs.Ranges.{pieces_pass, range_passes, sum_within}
pub use Rattle.generated_run.proofs.RankLaws.{rank_long}
pub use Rattle.generated_run.specs.Made.{calls_of_rank, calls_of_record}
unfoldable pub use Rattle.generated_run.specs.Made.{columns_of, precip_band, region_of_band, temp_band}
