-- The words of this crate's proofs, from where they stand.
pub use Rattle.list_laws.proofs.Std.{Bool, Bor, IfErr, IfOk, IfOk-weaker, IfSome, IsErrAnd, IsErrOf, IsSomeAnd, List, None, Option, Some, [], ap, append-nil, ap₂, arith, both_ways, cases_lt, false, inl, inr, length, length-replicate, min, option_map, refl, replicate, rules, subst, sym, take, take-append_seam, take_all, true, ℕ, ◌++◌, ◌-◌, ◌<◌, ◌^◌, ◌∙◌, ◌≡◌, ◌≤◌, ◌⊎◌, nat_tests}
pub use Rattle.std.proofs.Common.{◌==◌}
pub use Rattle.std.proofs.lemmas.List.{length-append}
pub use Rattle.std.specs.Prelude.{Err, Ok, Result}
pub use Rattle.cdf_header.specs.Decoded.{BeginsWith}
pub use Rattle.dataset_start.proofs.Asked.{not_mislaid, not_unread, not_wrong, read-faulty}
pub use Rattle.dataset_start.proofs.Keeping.{kept_created, kept_extras, kept_hints, kept_records, kept_whole_extras, read_kept}
pub use Rattle.dataset_start.proofs.Opened.{faultless, tells}
pub use Rattle.dataset_start.proofs.ReadyLaws.{at_front, created-faultless, created_long, fault-none, fault-some, header-changed, header-kept, laid-mislaid, no_extras, of_bad_layout, opened-faultless, same_script, some_extras}
pub use Rattle.dataset_start.proofs.Redefinable.{redefined_sound}
pub use Rattle.dataset_start.specs.Dataset.{Asks, AsksFor, AsksForBadLayout, HasRedefinitionFault, IsBadDataset, IsBeforeStart, IsFaultyFile, IsFaultyText, IsRight, IsSoundFile, IsWrong, TellsDataset, TellsScript, created_header, creation_fault, front}
pub use Rattle.dataset_start.specs.Limits.{TakesAtMost, most_taken}
pub use Rattle.dataset_start.specs.Readiness.{IsFaultless, IsOpened}
pub use Rattle.dataset_start.specs.Stops.{IsOfLayout, IsOfRedefinition, IsOfTaking, status_of, stop_of_header}
pub use Rattle.dataset_start.specs.declared.stop.Stop.{Stop}
pub use Rattle.list_laws.proofs.Common.{and_second, some_not_none}
pub use Rattle.list_laws.proofs.Types.{DiskCall, Header, HeaderErr, LayoutErr, RedefErr, Script, ScriptErr}
pub use Rattle.nc_outside.specs.Cause.{Rose}
pub use Rattle.nc_outside.specs.Told.{after, with_end}
pub use Rattle.opening_plan.specs.Opening.{IsOpeningOf}
pub use Rattle.plan_cli.specs.Ends.{EndsAs, HasEnded, IsSilent, IsStatus, LacksDataset}
pub use Rattle.plan_cli.specs.FaultLines.{fixed_line_of, line_of, line_of_status, renamed}
pub use Rattle.plan_cli.specs.Headline.{Foretells, Planned, TellsPlan}
unfoldable pub use Rattle.plan_cli.specs.Headline.{document}
pub use Rattle.plan_cli.specs.Opened.{IsOpenedFile, IsOpening, MayHold, file_at_start}
pub use Rattle.plan_cli.specs.Outside.{DatasetFailed, GivesLine, Seen, SinkFailed, SourceFailed, held_of, seen_at}
pub use Rattle.plan_cli.specs.Stopped.{IsStoppedBy, IsUnprepared}
pub use Rattle.plan_cli.specs.Words.{Wanted, form_of, name_of, named_by, texts, wanted_of}
pub use Rattle.plan_cli.specs.declared.existing.Looked.{Looked}
pub use Rattle.plan_cli.specs.declared.start.Prepared.{Prepared}
pub use Rattle.redef_laws.proofs.MovedLaws.{writable_is_sound}
pub use Rattle.redef_laws.specs.Applied.{IsApplied}
pub use Rattle.run_plan.specs.declared.run.Opening.{Opening}
pub use Rattle.script_spec.proofs.Common.{Reads, header_line, layout_line, redef_line, script_fault, script_line}
pub use Rattle.serial_spec.proofs.Common.{HasFault, is_sound, redefined_fault, within_is}
