-- The words of this crate's proofs, from where they stand.
pub use Rattle.list_laws.proofs.Std.{AllByRecursion, Bool, Err, List, None, Ok, Option, Result, Some, [], and_from, and_parts, ap, arith, bytes_eq, common_steps, cond_some, eqb-true, false, find_at, length, list_all, map, refl, subst, suc, sym, true, zero, zero-add, ℕ, ◌&&◌, ◌*◌, ◌+◌, ◌-◌, ◌<◌, ◌^◌, ◌∙◌, ◌∷◌, ◌≡◌, ◌≤◌, ltb-true, nat_tests}
pub use Rattle.std.proofs.Common.{eq-eqb, find, fold, leb-true, nat_le, nat_lt, ◌==◌}
unfoldable pub use Rattle.list_laws.proofs.Std.{chars, digits, is_utf8, utf8_valid_len}
pub use Rattle.list_laws.proofs.Common.{and_first, and_second, each_at}
pub use Rattle.list_laws.proofs.Types.{Call, Choice, ScriptErr, ScriptKind}
pub use Rattle.script_spec.specs.CallTable.{Behind, CallRow, Family, Record, Size, call_table, in_row, of_behind, plain_word, row_of, row_of_text}
pub use Rattle.script_spec.specs.ScriptCalls.{call_of, id_of_post, mismatch, posted, row_call}
pub use Rattle.script_spec.specs.ScriptGrammar.{finish}
pub use Rattle.script_spec.specs.ScriptSteps.{or_fault}
pub use Rattle.script_spec.specs.ScriptWords.{Line, Word, below, digits_value, first_word, hex_sum, is_digit, is_digits, natural_of, size_of_text, without_empty_end}
pub use Rattle.script_spec.specs.Shown.{call_words, choice_words, words_behind}
pub use Rattle.script_spec.specs.Texts.{call_word}
unfoldable pub use Rattle.serial_spec.proofs.Common.{canon}
pub use Rattle.serial_spec.proofs.Common.{id_posted, is_lawful_call, is_size, kinds, values_in_call}
