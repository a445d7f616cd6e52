-- The words of this crate's proofs, from where they stand.
pub use Rattle.std.proofs.Common.{All, Bool, Err, IsOk, List, MatchResult, None, Ok, Option, Result, Some, [], ap, append_assoc, arith, drop, false, fold, if◌then◌else◌, is_err, length, length-append, ltb-false, ltb-true, nat_lt, refl, rules, set, subst, suc, sym, true, true≢false, zero, ℕ, ◌++◌, ◌+◌, ◌∙◌, ◌∷◌, ◌≡◌, ◌≤◌}
pub use Rattle.std.proofs.lemmas.List.{append-nil}
pub use Rattle.std.proofs.lemmas.List.Elements.{All-cons, All-head, All-nil, All-push, All-set, All-tail, All-weaker}
pub use Rattle.atomic_table.proofs.Lists.{set_else}
pub use Rattle.crossbeam_utils.specs.Register.{Forks, Merges, Turns, TurnsAt}
pub use Rattle.left_right.specs.Sides.{view}
pub use Rattle.nc_base.specs.declared.run.Summary.{Summary}
pub use Rattle.nc_base.specs.declared.step.Mark.{Mark}
pub use Rattle.run_watch.specs.BoardRule.{HeardOf, Keeps, Reads, TellsMore}
pub use Rattle.run_watch.specs.Ends.{Shows}
pub use Rattle.run_watch.specs.Heard.{BeginOneList, IsBeginning, longer, opened, summary, with_pair}
pub use Rattle.run_watch.specs.contracts.view.View.{the_row}
pub use Rattle.run_watch.specs.declared.rule.Heard.{Heard}
pub use Rattle.run_watch.specs.declared.rule.Shown.{Shown}
pub use Rattle.serial_spec.proofs.Common.{last_count}
pub use Rattle.std.proofs.lemmas.Bool.Decides.{nat_tests}
