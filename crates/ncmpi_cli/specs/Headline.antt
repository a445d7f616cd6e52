-- What a run that ended well did, and what each status leaves.
--     file_at_start, end_of_run              the file when the ranks begin, and what the calls lead to
--     with_counts, watched_text              what watchers read, and its lines
--     Tells                                  what a text tells whatever the file holds
--     Ran, RanWell, RanToSink                what a run did to the file, and what it gave
--     HaveBegun, GivesLine                   the ranks began, and these steps were done; the line that was given
use Rattle.std.specs.Prelude.{ℕ, ◌≡◌, ◌⊎◌, List, [], ◌++◌, map, take, Option, Some, IfSome}
use Rattle.nc_base.specs.declared.header.Header.{Header}
use Rattle.nc_base.specs.declared.script.Script.{Script}
use Rattle.nc_base.specs.declared.step.Mark.{Mark}
use Rattle.nc_outside.specs.Told.{after, with_end}
use Rattle.nc_outside.specs.Cause.{Rose}
use Rattle.serial_spec.specs.DeviceCalls.{all_calls}
use Rattle.serial_spec.specs.History.{IsLegal}
use Rattle.serial_spec.specs.Redefinition.{brought}
use Rattle.serial_spec.specs.SerialEnd.{count_after, End, serial, start}
use Rattle.join_laws.specs.Alike.{AreAlikeEnds}
use Rattle.rank_meeting.specs.Begun.{HasBegun}
use Rattle.script_spec.specs.ScriptGrammar.{Reads}
use Rattle.script_spec.specs.Texts.{run_text, watch_text}
use Rattle.dataset_start.specs.Dataset.{AreHeadersOf, IsBeforeStart}
use Rattle.dataset_start.specs.Readiness.{CanHaveBegun}
use Rattle.ncmpi_cli.specs.Outside.{Seen}

-- ---- a run that ended well

abbrev pub text_of : Script → Header → List Mark → End → List ℕ
text_of script header order end = run_text script (record header { records = end.records }) order end.answers end.pending

-- a watcher's numbers of steps, each with the record count after so many, from the bytes when the ranks begin
abbrev pub with_counts : Script → Header → List ℕ → List Mark → List ℕ → List (ℕ × ℕ)
with_counts script header file order numbers = map (λ steps. (steps, count_after script header file order steps)) numbers

-- the lines of what watchers read, none where nobody watched
abbrev pub watched_text : Script → Header → List ℕ → List Mark → List (List ℕ) → List ℕ
watched_text script header file order readings = watch_text (map (with_counts script header file order) readings)

-- the file when the ranks begin: what it held or, where the script adds to it, the redefined file, made ready for them
abbrev pub file_at_start : Script → Header → Header → List ℕ → List ℕ
file_at_start script old header file = start script header (brought script old header file)

-- what the calls lead to, done one after another in the order
abbrev pub end_of_run : Script → Header → Header → List ℕ → List Mark → End
end_of_run script old header file order = serial script header (brought script old header file) order

-- The text is that of an end with the count, codes, pairs and pending numbers of the calls done one after another in the order, on any
-- file, and with as many values; the lines of watchers stand behind it.
pub record Tells (script : Script) (old header : Header) (order : List Mark) (text : List ℕ) : Type 0 where
  pub end : End
  pub alike : (bytes : List ℕ) → AreAlikeEnds end (end_of_run script old header bytes order)
  pub lines : List ℕ
  pub whole : text ≡ text_of script header order end ++ lines

-- The script is the one that the source's text spells, which was taken to its end. The order is legal. Of a file that is told, bytes
-- and text are those of the calls done one after another in the order, on what the dataset held, and the device calls are those of
-- the plan. What watchers read stands behind the text. Of a file that isn't told, the text tells all but the values that gets gave.
pub record Ran (before now : Seen) (order : List Mark) (readings : List (List ℕ)) (text : List ℕ) : Type 0 where
  pub script : Script
  pub old : Header
  pub header : Header
  pub file : List ℕ
  pub reads : IfSome before.left (λ text. Reads text script)
  pub taken : now.left ≡ after (λ _. []) before.left
  pub held : IfSome before.output.held (λ bytes. bytes ≡ file)
  pub heads : AreHeadersOf script file old header
  pub legal : IsLegal script order
  pub bytes : IfSome before.output.held (λ bytes. now.output.held ≡ Some (end_of_run script old header bytes order).bytes)
  pub calls : IfSome before.output.held (λ bytes. now.output.calls ≡ after (λ _. all_calls script old header bytes order) before.output.calls)
  pub tells : Tells script old header order text
  pub lines : IfSome before.output.held (λ bytes. text
      ≡ text_of script header order (end_of_run script old header bytes order) ++ watched_text script header (file_at_start script old header bytes) order readings)

-- the same, with the text given whole
pub record RanWell (before now : Seen) (order : List Mark) (readings : List (List ℕ)) : Type 0 where
  pub text : List ℕ
  pub ran : Ran before now order readings text
  pub given : now.output.given ≡ with_end before.output.given text

-- the same, with a front of the text given
pub record RanToSink (before now : Seen) (order : List Mark) (readings : List (List ℕ)) : Type 0 where
  pub text : List ℕ
  pub count : ℕ
  pub ran : Ran before now order readings text
  pub given : now.output.given ≡ with_end before.output.given (take count text)

-- ---- what each status leaves

-- The ranks can have begun, and these steps begin an order of their script.
pub record HaveBegun (before now : Seen) (order : List Mark) : Type 0 where
  pub start : CanHaveBegun before.left now.left before.output.held
  pub steps : HasBegun start.script order

-- the statuses with which the text is given, whole or in front
abbrev pub GivesText : ℕ → Type 0
GivesText status = (status ≡ 0) ⊎ (status ≡ 6)

-- the statuses there are
abbrev pub IsStatus : ℕ → Type 0
IsStatus status =
    (status ≡ 0) ⊎ ((status ≡ 2) ⊎ ((status ≡ 3) ⊎ ((status ≡ 4) ⊎ ((status ≡ 5) ⊎ ((status ≡ 6) ⊎ ((status ≡ 7) ⊎ (status ≡ 8)))))))

-- the statuses before the ranks begin
abbrev pub IsBeforeRanks : ℕ → Type 0
IsBeforeRanks status = IsBeforeStart status ⊎ (status ≡ 4)

-- the statuses that no line tells
abbrev pub IsSilent : ℕ → Type 0
IsSilent status = (status ≡ 5) ⊎ (status ≡ 8)

-- a line was given whole, or a front of it where the count of the sink rose
pub record GivesLine (faults_before faults_after : ℕ) (before after : Option (List ℕ)) (line : List ℕ) : Type 0 where
  pub front : (n : ℕ) × (after ≡ with_end before (take n line))
  pub whole : (after ≡ with_end before line) ⊎ Rose faults_before faults_after
