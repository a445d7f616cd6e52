-- The words that this crate's proofs cite, from where they stand.
pub use Rattle.list_laws.proofs.Std.{Bool, List, None, Option, Some, [], ap, append_assoc, arith, codes, common_steps, decimal, digit_glyph, digits_onto, false, get_or, length, map, map_more, refl, slice_get, slice_get-get_or, suc, sym, take, true, zero, ℕ, ◌%◌, ◌++◌, ◌+◌, ◌/◌, ◌<◌, ◌^◌, ◌∙◌, ◌∷◌, ◌≡◌, nat_tests}
pub use Rattle.std.proofs.Common.{le-leb, lt-ltb, ne_eqb, ◌==◌}
pub use Rattle.std.proofs.lemmas.List.Concat.{flat_map-append}
unfoldable pub use Rattle.list_laws.proofs.Std.{digits}
pub use Rattle.std.specs.List.{flat_map}
pub use Rattle.hint_table.specs.HintNames.{row_of}
pub use Rattle.hint_table.specs.declared.HintName.{HintName}
pub use Rattle.list_laws.proofs.Common.{either, then_append}
pub use Rattle.list_laws.proofs.Types.{Bput, Call, Form, Header, Iget, Iput, Mark, Meet, PostKind, Solo, Var}
pub use Rattle.plan_text.specs.Json.{closed, comma, json_character, json_text, on_line}
pub use Rattle.plan_text.specs.JsonHead.{hint_object, variable_object}
pub use Rattle.plan_text.specs.JsonPlan.{head_members, plan_members}
pub use Rattle.plan_text.specs.JsonSteps.{caller_object, file_members, step_object}
pub use Rattle.plan_text.specs.JsonSums.{beside_members, moved_members}
pub use Rattle.plan_text.specs.PlanTexts.{cell_line, head_lines, hint_line, sum_lines, variable_line}
pub use Rattle.plan_text.specs.PlanWords.{word_in, word_of_some}
pub use Rattle.plan_text.specs.StepTexts.{asked_line, caller_line, device_lines, domain_lines, in_bytes, share_words, step_lines, window_lines}
pub use Rattle.printed_text.proofs.WordLaws.{joined_spaced, next_pushed, then_three}
pub use Rattle.printed_text.specs.Spaced.{spaced}
pub use Rattle.script_spec.proofs.Common.{call_word, form_word, joined, kind_word, mark_word, shown_value, text_line, with_all}
pub use Rattle.serial_spec.proofs.Common.{header_len, is_sound, recsize, slab}
unfoldable pub use Rattle.serial_spec.proofs.Common.{canon}
pub use Rattle.step_plan.specs.Steps.{count_call}
pub use Rattle.step_plan.specs.declared.plan.StepPlan.{StepPlan}
pub use Rattle.var_layout.proofs.Soundness.{header_short, slab_small}
