-- The words that this crate's proofs cite, from where they stand.
pub use lib.Ieee.Fits.{and_l, and_r}
pub use Rattle.list_laws.proofs.Std.{Bool, Bor, List, None, Option, Some, T, [], ap, append-nil, arith, codes, common_steps, cond, decimal, drop, drop-set, enumerate_from, eq-zero-or-pos, eqb, eqb→eq, false, filter_more, find, find_at, flat_map_more, get_or, get_or-enumerate_from, get_or-zip, get_or_default_zero, inl, inr, length, length-append, length-enumerate_from, length-take-le, length-zip, ltb-false, map, map_more, min, nat_lt, option_map, position, position_or_len, refl, same_Some, set, signed_decimal, slice_get, slice_get-get_or, slice_get_cases, slice_get_past, suc, sym, take, take-append-drop, take-append_seam, take-set-le, take-set_at, take_all, take_more, to_z-of_z, true, unwrap_or, zero, ℕ, ◌%◌, ◌&&◌, ◌*◌, ◌++◌, ◌+◌, ◌-◌, ◌/◌, ◌<◌, ◌^◌, ◌∙◌, ◌∷◌, ◌≡◌, ◌≤◌, nat_tests}
pub use Rattle.std.proofs.Common.{fold, length-set}
pub use Rattle.std.proofs.lemmas.List.{append_assoc}
pub use Rattle.std.proofs.lemmas.List.Concat.{flat_map-append}
pub use Rattle.std.specs.List.{filter, flat_map, zip}
pub use Rattle.std.specs.Prelude.{bytes_eq}
pub use Rattle.list_laws.proofs.Common.{either, no_none_some, then_append}
pub use Rattle.list_laws.proofs.Types.{Call, Header, Var}
pub use Rattle.printed_text.specs.declared.words.TheConstants.{PAIRS}
pub use Rattle.printed_text.specs.Digits.{FindsNames, FindsPosts, named_digits}
pub use Rattle.printed_text.specs.Offsets.{is_listed}
pub use Rattle.printed_text.specs.Spaced.{spaced}
pub use Rattle.script_spec.proofs.Common.{call_lines, call_word, code_word, digits_of, digits_of_name, digits_of_var, dim_length_line, dim_name, hex, hex_digit, item_line, joined, mark_word, option_words, outcome, rank_lines, text_char, value_words, var_lines}
pub use Rattle.serial_spec.proofs.Common.{header_len, is_sound, slab, slab_below, vsize}
pub use Rattle.var_layout.proofs.Soundness.{header_short, var_kept}
