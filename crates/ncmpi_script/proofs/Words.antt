-- The words of this crate's proofs, from where they stand.
pub use Rattle.std.proofs.Common.{Bool, Err, List, Result, [], ap, arith, false, length, nat_lt, refl, subst, sym, take, true, ℕ, ◌+◌, ◌==◌, ◌∙◌, ◌∷◌, ◌≡◌, ◌≤◌}
pub use Rattle.std.proofs.lemmas.Bool.Decides.{nat_tests}
pub use Rattle.std.proofs.lemmas.Str.{utf8_valid_len-IsUtf8}
pub use Rattle.std.specs.Str.Lossy.{utf8_valid_len}
pub use Rattle.nc_base.specs.declared.errors.ScriptErr.{ScriptErr}
pub use Rattle.nc_base.specs.declared.errors.ScriptKind.{ScriptKind}
pub use Rattle.nc_base.specs.declared.script.Script.{Script}
pub use Rattle.ncmpi_script.specs.LineFaults.{on_line}
unfoldable pub use Rattle.ncmpi_script.specs.TopWords.{call_by, called_by, calls_by, data_part_by, definition_by, definitions_by, end_by, finish_by, head_by, headed_by, known_by, lines_by, made_by, rest_by, text_by, utf8_by}
pub use Rattle.script_spec.proofs.Common.{Called, Known, Line, Word, at_line, call_step, data_part, definition_step, definitions, most_bytes, newlines, script_of_lines, script_of_text, significant_of, text_lines, without_head}
pub use Rattle.script_words.specs.Given.{Fails, FailsAt, GivesAt}
pub use Rattle.script_words.specs.declared.fault.ReadErr.{ReadErr}
