-- What each status leaves.
--     IsStatus, IsSilent            the statuses there are, and those that no line tells
--     LacksDataset named left       the text asks for a dataset that is opened, and no word names one
--     HasEnded wanted before now .. how a plan ends that is asked for
--     EndsAs wanted ..              the end that the words ask for
use Rattle.std.specs.Prelude.{ℕ, ◌≡◌, ◌⊎◌, List, false, Option, Some, None, IsSomeAnd}
use Rattle.nc_base.specs.declared.script.Script.{Script}
use Rattle.dataset_start.specs.Dataset.{Asks, AsksFor, AsksForBadLayout, IsBadDataset, IsFaultyText, IsRight, IsWrong, TellsScript}
use Rattle.dataset_start.specs.Limits.{most_taken, TakesAtMost}
use Rattle.plan_cli.specs.FaultLines.{renamed}
use Rattle.plan_cli.specs.Headline.{GaveFront, GaveWhole}
use Rattle.plan_cli.specs.Outside.{DatasetFailed, GivesLine, Seen, SinkFailed, SourceFailed}
use Rattle.plan_cli.specs.Words.{Wanted}

abbrev pub IsStatus : ℕ → Type 0
IsStatus status =
    (status ≡ 0) ⊎ ((status ≡ 2) ⊎ ((status ≡ 3) ⊎ ((status ≡ 4) ⊎ ((status ≡ 5) ⊎ ((status ≡ 6) ⊎ ((status ≡ 7) ⊎ (status ≡ 8)))))))

abbrev pub IsSilent : ℕ → Type 0
IsSilent status = (status ≡ 5) ⊎ (status ≡ 8)

pub record LacksDataset (named left : Option (List ℕ)) : Type 0 where
  pub unnamed : named ≡ None
  pub script : Script
  pub asks : Asks left script
  pub opens : script.fresh ≡ false

-- the line of ncrun was given under this program's name, or a front of it where the sink failed
abbrev pub Gives : Seen → Seen → List ℕ → Type 0
Gives before now line = GivesLine before.sink_faults now.sink_faults before.given now.given (renamed line)

-- `Untouched` says that no dataset was looked at.
pub record HasEnded (wanted : Wanted) (before now : Seen) (Untouched : Type 0) (status : ℕ) : Type 0 where
  -- the plan was given whole
  pub well : status ≡ 0 → GaveWhole wanted.json before now
  -- where the sink fails, a front of it was given
  pub cut : status ≡ 6 → GaveFront wanted.json before now
  -- whatever the status, the source is not read far past what a script may have
  pub taken : TakesAtMost most_taken before.left now.left
  -- the fault of the script, or of its dataset, is told
  pub script : status ≡ 3 → (line : List ℕ) × (TellsScript before.left line × Gives before now line)
  pub dataset : status ≡ 4 → (line : List ℕ) × (IsBadDataset before.left before.held Untouched line × Gives before now line)
  -- the dataset can't be read, or there is none to read
  pub unread : status ≡ 7 → DatasetFailed before now ⊎ LacksDataset wanted.dataset before.left
  -- where the source is not at fault, a text with a fault is refused
  pub refused : IsSomeAnd before.left IsFaultyText → ¬ (SourceFailed before now) → (status ≡ 3) ⊎ (status ≡ 8)
  -- and so is a layout with a fault
  pub mislaid : IsSomeAnd before.left AsksForBadLayout → ¬ (SourceFailed before now) → (status ≡ 4) ⊎ (status ≡ 8)
  -- where the dataset is not at fault either, one with a fault is refused
  pub faulty : IsSomeAnd before.left (λ text. AsksFor IsWrong text before.held) → ¬ (SourceFailed before now)
      → ¬ (DatasetFailed before now) → (status ≡ 4) ⊎ (status ≡ 8)
  -- where nothing is at fault, the plan is given or memory is wanting
  pub complete : IsSomeAnd before.left (λ text. AsksFor IsRight text before.held) → ¬ (SourceFailed before now)
      → ¬ (SinkFailed before now) → ¬ (DatasetFailed before now) → (status ≡ 0) ⊎ (status ≡ 8)

abbrev pub EndsAs : Option Wanted → Seen → Seen → Type 0 → ℕ → Type 0
EndsAs None before now Untouched status = status ≡ 2
EndsAs (Some wanted) before now Untouched status = HasEnded wanted before now Untouched status
