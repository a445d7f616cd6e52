-- The words of this crate's proofs, from where they stand.
pub use Rattle.std.proofs.Common.{Bool, List, None, Ok, Option, Result, Some, [], ap, append-nil, arith, cond, false, find, get_or, is_some, length, length-append, map, option_map, refl, replicate, subst, suc, sym, take, true, zero, ℕ, ◌++◌, ◌+◌, ◌-◌, ◌<◌, ◌^◌, ◌∙◌, ◌∷◌, ◌≡◌, ◌≤◌}
pub use Rattle.std.proofs.lemmas.List.{take_more}
pub use Rattle.std.proofs.lemmas.List.Elements.{filter_map-append}
pub use Rattle.std.specs.List.{All, range_with_len}
pub use Rattle.nc_base.specs.declared.errors.ScriptKind.{ScriptKind}
pub use Rattle.nc_base.specs.declared.request.Call.{Call}
pub use Rattle.nc_base.specs.declared.step.MeetKind.{MeetKind}
unfoldable pub use Rattle.script_calls.specs.CallWords.{call_by, called_by, get_by, line_by, new_id_by, plain_by, post_by, post_or_plain_by, post_values_by, put_by, region_by, values_by}
pub use Rattle.script_spec.proofs.Common.{Called, Word, call_of, called_after, calls_of, differs_at, first_difference, id_of_post, ids, is_difference, is_posted, next, none_posted, one_posted, posted, ◌>>=◌}
pub use Rattle.script_words.specs.Given.{Gives}
pub use Rattle.serial_spec.proofs.Common.{kind_of_call, kinds}
pub use Rattle.std.proofs.lemmas.Bool.Decides.{nat_tests}
