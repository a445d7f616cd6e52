-- The words of this crate's proofs, from where they stand.
pub use Rattle.list_laws.proofs.Std.{Bool, IfErr, IfOk, IfSome, IsErrAnd, IsSomeAnd, List, None, Option, OnOk, Some, [], ap, append_assoc, arith, both_ways, cases_lt, common_steps, drop, drop-replicate, false, if◌then◌else◌, inl, inr, is_ok, length, length-replicate, length-take, list_all, min, nat_tests, on_err_weaker, refl, replicate, rules, subst, sym, take, take-add, take-append-drop, take_all, take_rest, true, vec_len, with_items, with_items_is, ℕ, ◌++◌, ◌+◌, ◌-◌, ◌<◌, ◌^◌, ◌∙◌, ◌∷◌, ◌≡◌, ◌≤◌, ◌⊎◌}
pub use Rattle.std.proofs.Common.{eqb-true, fold, zip, ◌==◌}
pub use Rattle.std.proofs.lemmas.List.{length-append}
pub use Rattle.std.specs.Prelude.{Err, Ok, Result}
pub use Rattle.cdf_header.specs.Decoded.{BeginsWith}
pub use Rattle.dataset_start.specs.Dataset.{AreHeadersOf, Asks, AsksFor, AsksForBadLayout, HasRedefinitionFault, IsBadDataset, IsBeforeStart, IsFaultyFile, IsFaultyText, IsKept, IsLaid, IsMislaid, IsSoundFile, IsWrong, TellsDataset, created_header, creation_fault, front, header_of_run, redefinition_fault}
pub use Rattle.dataset_start.specs.Limits.{max_text}
pub use Rattle.dataset_start.specs.Readiness.{IsCutRedefinition, IsFaultless, IsLeftUnready, IsNotReady, IsOpened, IsPartlyOpened, IsPartlyRedefined, IsReady, IsUnready, blank_file, dataset_end, empty_end, fill_calls_if, filled_if, first_calls, opened_calls}
pub use Rattle.dataset_start.specs.Stops.{IsOfDataset, IsOfHeader, IsOfLayout, IsOfOpening, IsOfRedefinition, line_of, status_of, stop_of_disk, stop_of_header}
pub use Rattle.dataset_start.specs.declared.stop.Stop.{Stop}
pub use Rattle.dataset_start.specs.declared.stop.Stop.TheVariants.{Memory}
pub use Rattle.fill_records.proofs.TornLaws.{filled_long}
pub use Rattle.list_laws.proofs.Common.{and_first, and_second, holds_or_not, on_err, some_not_none}
pub use Rattle.list_laws.proofs.Types.{DiskCall, Extra, Grow, Header, HeaderErr, RedefErr, Script, ScriptErr, StepErr, Store, Var}
pub use Rattle.nc_outside.proofs.ToldLaws.{after-after, after-same, told_as, with_end-with_end}
pub use Rattle.nc_outside.specs.DiskState.{PartlyWritten}
pub use Rattle.nc_outside.specs.Told.{BothTold, after, with_end, with_front}
pub use Rattle.overlay_laws.proofs.Common.{IsBetween}
pub use Rattle.redef_laws.proofs.MovedLaws.{writable_is_sound}
pub use Rattle.redef_laws.specs.Applied.{IsApplied}
pub use Rattle.redef_laws.specs.Shifted.{new_end}
pub use Rattle.redef_mover.specs.Relocation.{KeepsPlaces, relocation_calls}
pub use Rattle.script_laws.proofs.HeaderLaws.{read_unplaced, read_writable}
pub use Rattle.script_laws.proofs.LawfulLaws.{read_lawful, read_whole}
pub use Rattle.script_spec.proofs.Common.{Reads, fault_of, script_fault}
pub use Rattle.serial_spec.proofs.Common.{HasFault, IsBegun, IsLengthened, IsTornCreation, IsTornRedefinition, Spells, all_indices, are_lawful_hints, at, at-longer, brought, canon, end_of, fault_only, filled, first_check, grow_to, head_load, header_len, is_empty, is_lawful_extra, is_lawful_header, is_sound, is_whole_extra, longer, longer-enough, longer_long, move_calls, moved, opening_calls, place, read, redefined, redefined_fault, redefined_header, redefining_calls, size_of, spells_once, start, with_extra, within_is, written, written-front, written_grows, zero_calls}
pub use Rattle.var_layout.proofs.ElementPlaces.{sound_end}
pub use Rattle.var_layout.specs.Unplaced.{has_writable_parts, is_unplaced}
