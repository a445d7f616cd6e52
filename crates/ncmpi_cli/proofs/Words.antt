-- The words of this crate's proofs, from where they stand.
pub use Rattle.list_laws.proofs.Std.{All, All-from_get_or, All-head, All-nil, All-push, All-tail, All-weaker, IfErr, IfSome, IfSome_then, IsSome, IsSomeAnd, List, None, Option, Some, [], ap, append-nil, ap₂, arith, common_steps, crosses, enumerate_from, false, inl, inr, length, length-map, map, min, nat_tests, refl, rules, subst, suc, sym, take, true, unwrap_or, vec_capacity, zero, ℕ, ◌++◌, ◌+◌, ◌<◌, ◌∙◌, ◌∷◌, ◌≡◌, ◌≤◌, ◌⊎◌}
pub use Rattle.std.proofs.Common.{option_map, slice_index, ◌==◌}
pub use Rattle.std.proofs.lemmas.List.{append_assoc}
pub use Rattle.std.specs.List.{flat_map}
pub use Rattle.std.specs.Prelude.{Err, IsErrAnd, Ok, Result, get_or}
pub use Rattle.dataset_start.proofs.Asked.{asked_for, not_mislaid, not_unread, not_wrong, read-faulty}
pub use Rattle.dataset_start.proofs.NotReady.{not_laid}
pub use Rattle.dataset_start.proofs.ReadyLaws.{file-kept, header-kept, laid-mislaid, of_bad_layout}
pub use Rattle.dataset_start.specs.Dataset.{Asks, AsksFor, AsksForBadLayout, IsBadDataset, IsBeforeStart, IsFaultyText, IsKept, IsLaid, IsMislaid, IsRight, IsSoundFile, IsWrong, TellsDataset, TellsHeader, TellsRedefinition, TellsScript, align_of, created_header, creation_fault, front}
pub use Rattle.dataset_start.specs.Limits.{TakesAtMost, most_taken}
pub use Rattle.dataset_start.specs.Readiness.{IsNotReady, IsReady, IsUnready, first_calls}
pub use Rattle.dataset_start.specs.Stops.{IsOfDataset, IsOfHeader, line_of, line_of_status, status_of}
pub use Rattle.dataset_start.specs.declared.stop.Stop.{Stop}
pub use Rattle.generated_run.proofs.LawfulLaws.{made_counted, made_lawful}
pub use Rattle.generated_run.proofs.MadeLaws.{made_laid}
pub use Rattle.join_laws.specs.Alike.{AreAlikeEnds}
pub use Rattle.list_laws.proofs.Common.{holds_or_not, if_some_at, on_err, some_not_none}
pub use Rattle.list_laws.proofs.Types.{Answer, DiskCall, Header, HeaderErr, Mark, RunEnd, Script, ScriptErr, StepErr}
pub use Rattle.nc_outside.proofs.ToldLaws.{rose_before}
pub use Rattle.nc_outside.specs.Told.{BothTold, after, with_end}
pub use Rattle.ncmpi_cli.specs.Ends.{EndsAs, HasReadings, watchers_of}
pub use Rattle.ncmpi_cli.specs.Faults.{IsCutFile, IsMadeUnready, MadeCutOff, WasCutOff}
pub use Rattle.ncmpi_cli.specs.Generated.{IsMadeStatus, RanMade, new_end, summed}
unfoldable pub use Rattle.ncmpi_cli.specs.Generated.{script_made}
pub use Rattle.ncmpi_cli.specs.Headline.{GivesText, HaveBegun, IsBeforeRanks, IsSilent, IsStatus, Ran, end_of_run, file_at_start, text_of, watched_text, with_counts}
pub use Rattle.ncmpi_cli.specs.OffsetList.{IsFaultyFront, IsListStatus, IsOfReadHeader, IsSoundFront}
pub use Rattle.ncmpi_cli.specs.Outside.{Output, Seen, output_at}
pub use Rattle.ncmpi_cli.specs.Readings.{AreCounted, count_at, counted, pairs_of, readings_of, whole_text}
pub use Rattle.ncmpi_cli.specs.Watched.{AreReadings, seen_counts}
pub use Rattle.ncmpi_cli.specs.declared.watched_run.RunReadings.{RunReadings}
pub use Rattle.ncmpi_cli.specs.declared.watched_run.WatchedRun.{WatchedRun}
pub use Rattle.program_words.specs.Forms.{asked_of}
pub use Rattle.program_words.specs.Words.{Asked, form_of, generate, offsets, run, texts}
pub use Rattle.rank_meeting.specs.Begun.{HasBegun}
pub use Rattle.rank_meeting.specs.Run.{HasCut, IsRun}
pub use Rattle.run_watch.proofs.Sent.{view_send}
pub use Rattle.script_laws.proofs.LawfulLaws.{read_lawful}
pub use Rattle.script_spec.proofs.Common.{Reads, has_counts, header_line, layout_line, made_script, reading_line, redef_line, run_text, script_fault, script_line, summary_text, watch_text, watcher_lines}
pub use Rattle.serial_spec.proofs.Common.{End, HasFault, IsCutRun, IsLegal, all_calls, count_after, is_lawful, layout_fault, marks, run_calls, serial, serial_from, told_of}
pub use Rattle.turn_run.proofs.CutEnds.{same_cause, unbegun_run}
pub use Rattle.turn_run.proofs.CutRuns.{cut_run, no_answers, no_rows, stood_first}
pub use Rattle.turn_run.specs.Known.{DiskSeen, seen}
pub use Rattle.turn_run.specs.Told.{HasTold}
