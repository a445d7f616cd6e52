-- What each form does, by the status with which it ends.
--     HasRun, HasListed, HasGenerated  the ends of a run of the source's script, of a list of offsets, and of a run of a made script
--     EndsAs form                      the end that the words ask for
--     watchers_of form                 how many watch
--     HasReadings                      the numbers that they read
use Rattle.std.specs.Prelude.{ℕ, ◌≡◌, ◌⊎◌, List, [], length, All, Option, Some, None, IfSome, IsSomeAnd}
use Rattle.nc_base.specs.declared.step.Mark.{Mark}
use Rattle.nc_base.specs.declared.step.StepErr.TheVariants.{Disk}
use Rattle.nc_outside.specs.Told.{after}
use Rattle.serial_spec.specs.DeviceCalls.{head_load}
use Rattle.rank_meeting.specs.Begun.{HasBegun}
use Rattle.ncmpi_cli.specs.Faults.{EndsEarly, MadeEndsEarly, MadeWantsMemory, WantsMemory}
use Rattle.ncmpi_cli.specs.Generated.{IsMadeStatus, MadeFront, MadeWhole, script_made}
use Rattle.ncmpi_cli.specs.Headline.{GivesLine, GivesText, HaveBegun, RanToSink, RanWell}
use Rattle.ncmpi_cli.specs.Outside.{DiskFailed, Output, Seen, SinkFailed, SourceFailed}
use Rattle.dataset_start.specs.Dataset.{AsksFor, AsksForBadLayout, IsBadDataset, IsFaultyText, IsRight, IsWrong, TellsHeader, TellsScript}
use Rattle.dataset_start.specs.Limits.{most_taken, TakesAtMost}
use Rattle.ncmpi_cli.specs.OffsetList.{IsFaultyFront, IsListStatus, IsOfReadHeader, IsSoundFront, ListsFront, ListsWhole}
use Rattle.ncmpi_cli.specs.Watched.{AreReadings}
use Rattle.program_words.specs.Words.{Asked, run, offsets, generate}

-- a line was given whole, or a front of it where the sink failed
abbrev pub Gives : Output → Output → List ℕ → Type 0
Gives before now line = GivesLine before.sink_faults now.sink_faults before.given now.given line

-- ---- a run of the script that the source has

-- `Untouched` says that the disk is as it was.
pub record HasRun (before now : Seen) (Untouched : Type 0) (status : ℕ) (order : List Mark) (readings : List (List ℕ)) : Type 0 where
  -- file, text and device calls are those of the calls done one after another in the order
  pub well : status ≡ 0 → RanWell before now order readings
  -- where the sink fails, the file is the same, and a front of the text was given
  pub cut : status ≡ 6 → RanToSink before now order readings
  -- whatever the status, the source is not read far past what a script may have
  pub taken : TakesAtMost most_taken before.left now.left
  -- the fault of the script, or of its dataset, is told
  pub script : status ≡ 3 → (line : List ℕ) × (TellsScript before.left line × Gives before.output now.output line)
  pub dataset : status ≡ 4 → (line : List ℕ) × (IsBadDataset before.left before.output.held Untouched line × Gives before.output now.output line)
  -- where the source is not at fault, a text with a fault is refused
  pub refused : IsSomeAnd before.left IsFaultyText → ¬ (SourceFailed before now) → (status ≡ 3) ⊎ (status ≡ 8)
  -- and so is a layout with a fault; whatever the status, the disk is then untouched
  pub mislaid : IsSomeAnd before.left AsksForBadLayout → ¬ (SourceFailed before now) → (status ≡ 4) ⊎ (status ≡ 8)
  pub unlaid : IsSomeAnd before.left AsksForBadLayout → Untouched
  -- where the disk is not at fault either, a dataset with a fault is refused
  pub faulty : IsSomeAnd before.left (λ text. AsksFor IsWrong text before.output.held) → ¬ (SourceFailed before now)
      → ¬ (DiskFailed before.output now.output) → (status ≡ 4) ⊎ (status ≡ 8)
  -- where nothing is at fault, the run ends well or wants memory
  pub complete : IsSomeAnd before.left (λ text. AsksFor IsRight text before.output.held) → ¬ (SourceFailed before now)
      → ¬ (SinkFailed before.output now.output) → ¬ (DiskFailed before.output now.output) → (status ≡ 0) ⊎ (status ≡ 8)
  -- whatever the status, a step was done only where the ranks can have begun, and the steps begin an order of their script
  pub began : (order ≡ []) ⊎ HaveBegun before now order
  -- and so none where the text is refused or its dataset is
  pub unread : IsSomeAnd before.left IsFaultyText → order ≡ []
  pub unfit : IsSomeAnd before.left (λ text. AsksFor IsWrong text before.output.held) → order ≡ []
  -- where the disk fails, the dataset was not made ready, or the run of its ranks was cut off behind the steps of the order
  pub torn : status ≡ 7 → EndsEarly Disk before now order
  -- where memory is wanting, the same, or all but the text was done
  pub wanting : status ≡ 8 → WantsMemory before now order

-- ---- a list of offsets

pub record HasListed (before now : Output) (status : ℕ) (order : List Mark) : Type 0 where
  pub statuses : IsListStatus status
  pub whole : status ≡ 0 → ListsWhole before.held before.given now.given
  pub cut : status ≡ 6 → ListsFront before.held before.given now.given
  pub dataset : status ≡ 4 → (line : List ℕ) × (TellsHeader before.held line × Gives before now line)
  pub faulty : IsFaultyFront before.held → ¬ (DiskFailed before now) → (status ≡ 4) ⊎ (status ≡ 8)
  pub complete : IsSoundFront before.held → ¬ (SinkFailed before now) → ¬ (DiskFailed before now) → (status ≡ 0) ⊎ (status ≡ 8)
  -- whatever the status, the file stays, and no rank began
  pub unchanged : now.held ≡ before.held
  pub steps : order ≡ []
  -- a file that has a byte was read once
  pub calls : IsOfReadHeader status → IfSome before.held (λ file. now.calls ≡ after (λ _. head_load file) before.calls)

-- ---- a run of a made script

pub record HasGenerated (seed size : ℕ) (before now : Output) (status : ℕ) (order : List Mark) : Type 0 where
  -- it reads nothing, and nothing is wrong with the layout of its dataset
  pub statuses : IsMadeStatus status
  pub well : status ≡ 0 → MadeWhole seed size before now order
  pub cut : status ≡ 6 → MadeFront seed size before now order
  pub complete : ¬ (SinkFailed before now) → ¬ (DiskFailed before now) → (status ≡ 0) ⊎ (status ≡ 8)
  -- the steps that were finished begin an order of the script
  pub steps : HasBegun (script_made seed size) order
  -- where the disk fails, the dataset was not made ready, or the run of its ranks was cut off behind the steps of the order
  pub torn : status ≡ 7 → MadeEndsEarly seed size Disk before now order
  -- where memory is wanting, the same, or all but the text was done
  pub wanting : status ≡ 8 → MadeWantsMemory seed size before now order

-- ---- every form

abbrev pub EndsAs : Option Asked → Seen → Seen → Type 0 → ℕ → List Mark → List (List ℕ) → Type 0
EndsAs None before now Untouched status order readings = ((status ≡ 2) ⊎ (status ≡ 8)) × (order ≡ [])
EndsAs (Some (run watchers name)) before now Untouched status order readings = HasRun before now Untouched status order readings
EndsAs (Some (offsets name)) before now Untouched status order readings = HasListed before.output now.output status order
EndsAs (Some (generate seed size name)) before now Untouched status order readings = HasGenerated seed size before.output now.output status order

-- the form reads the script that the source has
abbrev pub TakesScript : Option Asked → Type 0
TakesScript (Some (run watchers name)) = Unit {0}
TakesScript _ = ⊥

-- ---- what watchers read

abbrev pub watchers_of : Option Asked → ℕ
watchers_of (Some (run watchers name)) = watchers
watchers_of _ = 0

-- Where the text is given, each watcher read how many steps were done, and at last all that were; else nothing was read.
pub record HasReadings (watchers status steps : ℕ) (readings : List (List ℕ)) : Type 0 where
  pub each : GivesText status → (length readings ≡ watchers) × All (AreReadings steps) readings
  pub none : (GivesText status → ⊥) → readings ≡ []
