-- The words that this crate's proofs cite, from where they stand.
pub use Rattle.list_laws.proofs.Std.{Bool, List, None, Option, Some, [], add-one, after_first, and_parts, ap, arith, before_first, bytes_eq, common_steps, cond, cond_some, count_by-le-length, drop, drop-cons, false, false_from_ne_true, fold_push, get_or, ints, length, length-enumerate_from, length-slice_split, list_all, list_any, map, map_push, min, nat_tests, neg_ℤ, not, onto_first, pos, position_or_len, position_or_len_is, prefix_len-le-length, refl, slice_split, slice_split_first, subst, suc, sym, take, take_all, take_more, to_z-of_z, true, zero, ℕ, ℤ, ◌&&◌, ◌*◌, ◌++◌, ◌+◌, ◌-◌, ◌<◌, ◌^◌, ◌∙◌, ◌∷◌, ◌≡◌, ◌≢◌, ◌≤◌}
pub use Rattle.std.proofs.Common.{fold, length-drop, nat_le, nat_lt, option_map, position, ◌==◌}
pub use Rattle.list_laws.proofs.Common.{and_first, and_second, any_map, position_map}
pub use Rattle.memchr.specs.Find.{IsFirstByte, is_byte}
pub use Rattle.script_spec.proofs.Common.{AfterBackslash, Between, Broken, FirstHex, Plain, Quoted, SecondHex, TextState, Word, after_blanks, begins_blank, digit_bounds, digits_value, escape, first_line_kept, first_word, hex_sum, hex_value, is_among, is_blank, is_comma, is_digit, is_digits, is_newline, more_words, natural_of, no_sum, number_of_text, quoted_word, significant_of, sixteens, sixteens-le, tens, tens-fits, text_from, text_lines, without_empty_end, words, words_within}
pub use Rattle.script_words.specs.Given.{first_for}
