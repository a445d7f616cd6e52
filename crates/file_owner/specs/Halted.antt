-- Where the owner stops doing what arrives. (own)
--     of_fault, of_stranger    the fault, and the number of the strange arrival
--     Inbox                    an inbox as it was and is, and which numbers are noted as ended
--     Stopped                  what can be seen of an owner that stopped
--     stopped .. out order     the same by what an owner's steps change, and the order of the steps
--     IsHaltAt ..              what tells that it stopped there
--     HasHalted ..             along the first arrivals nothing was strange, and with the later ones each offer has its item
--     HasHaltedOn dataset ..   the same of an owner of this dataset
--     Outcome ..               the same of all that was taken
--     HasEndedOn dataset ..    that of an owner of this dataset
use Rattle.std.specs.Prelude.{◌≡◌, ℕ, ◌≤◌, List, [], ◌∷◌, ◌++◌, Bool, true, Option, Some, None}
use Rattle.nc_base.specs.declared.script.Hints.{Hints}
use Rattle.nc_base.specs.declared.step.DiskCall.{DiskCall}
use Rattle.nc_base.specs.declared.step.Mark.{Mark}
use Rattle.nc_base.specs.declared.step.OwnerItem.{OwnerItem}
use Rattle.nc_base.specs.declared.step.RankItem.{RankItem}
use Rattle.nc_base.specs.declared.step.StepErr.{StepErr}
use Rattle.nc_base.specs.declared.step.StepErr.TheVariants as fault
use Rattle.nc_outside.specs.Cause.{Rose}
use Rattle.nc_outside.specs.declared.disk.Disk.{Ghosts as DiskGhosts}
use Rattle.nc_outside.specs.declared.told.Told.{Ghosts as ToldGhosts}
use Rattle.ruled_line.specs.Ends.{End, Receiver}
use Rattle.serial_spec.specs.Owner.{is_strange, stops}
use Rattle.serial_spec.specs.FileStep.{Setting}
use Rattle.serial_spec.specs.History.{Arrival}
use Rattle.collective_round.specs.Rounds.{dataset_setting}
use Rattle.file_owner.specs.Owned.{owner_at, Grows, HasRun, Standing}
use Rattle.file_owner.specs.Refused.{IsFaultAt}
use Rattle.file_owner.specs.Stops.{stops_for, AllHaveEnded, HaveEnded, IsMore}
use Rattle.collective_round.specs.declared.lent.Dataset.{Dataset}
use Rattle.file_owner.specs.declared.lent.Outlets.{Outlets}
use Rattle.file_owner.specs.declared.service.Halt.{Halt}
use Rattle.file_owner.specs.declared.service.Halt.TheVariants as halt

abbrev pub of_fault : Halt → Option StepErr
of_fault (halt.Fault e) = Some e
of_fault halt.Ended = None
of_fault (halt.Stranger number) = None

abbrev pub of_stranger : Halt → Option ℕ
of_stranger (halt.Stranger number) = Some number
of_stranger halt.Ended = None
of_stranger (halt.Fault e) = None

pub record Inbox : Type 0 where
  pub old : Receiver RankItem
  pub now : Receiver RankItem
  pub ended : List Bool

abbrev pub taken_from : Receiver RankItem → Receiver RankItem → List Bool → Inbox
taken_from old now ended = record { old = old; now = now; ended = ended }

-- the disk and its count, the order, what was told of it, and the lines
pub record Stopped : Type 0 where
  pub records : ℕ
  pub told : Option (List ℕ)
  pub calls : Option (List DiskCall)
  pub order : List Mark
  pub heard : Option (List (Mark × ℕ))
  pub lines : List (End OwnerItem)

abbrev pub stopped_with : ℕ → Option (List ℕ) → Option (List DiskCall) → List Mark → Option (List (Mark × ℕ)) → List (End OwnerItem) → Stopped
stopped_with records told calls order heard lines = record { records = records; told = told; calls = calls; order = order; heard = heard; lines = lines }

abbrev pub stopped : {D T : Type 0} → DiskGhosts D → ToldGhosts T → Outlets D T → List Mark → Stopped
stopped disk told out order = stopped_with out.records.now (disk.held out.disk.now) (disk.calls out.disk.now) order (told.heard out.told.now) out.back.now

-- disk and count are as they were there
pub record IsLeft (middle : Standing) (n : ℕ) (held : Option (List ℕ)) (made : Option (List DiskCall)) : Type 0 where
  pub records : n ≡ middle.records
  pub told : held ≡ middle.told
  pub calls : made ≡ middle.calls

pub record IsStrangeAt (s : Setting) (middle : Standing) (later : List Arrival) (number : ℕ) : Type 0 where
  pub item : RankItem
  pub last : later ≡ (number, item) ∷ []
  pub strange : (file : List ℕ) → is_strange s (owner_at middle file) (number, item) ≡ true

-- where it ended, each number has
abbrev pub HasSeenAll : ℕ → List Bool → Halt → Type 0
HasSeenAll senders flags halt.Ended = AllHaveEnded senders flags
HasSeenAll senders flags (halt.Stranger number) = Unit {0}
HasSeenAll senders flags (halt.Fault e) = Unit {0}

abbrev pub IsHaltAt : Setting → Standing → List Arrival → Stopped → Halt → Type 0
IsHaltAt s middle later left halt.Ended = (later ≡ []) × IsLeft middle left.records left.told left.calls
IsHaltAt s middle later left (halt.Stranger number) = IsStrangeAt s middle later number × IsLeft middle left.records left.told left.calls
IsHaltAt s middle later left (halt.Fault e) = IsFaultAt s e middle later left.records left.told

pub record HasHalted (hints : Hints) (s : Setting) (inbox : Inbox) (before : Standing) (left : Stopped) (halt : Halt) : Type 0 where
  pub first : List Arrival
  pub later : List Arrival
  pub middle : Standing
  pub taken : IsMore inbox.old (first ++ later) inbox.now
  pub ended : HaveEnded inbox.ended (first ++ later)
  pub run : HasRun hints s first before middle
  pub order : left.order ≡ middle.order
  pub heard_all : left.heard ≡ middle.heard
  pub stopped : Grows middle.lines (stops (owner_at middle []) later) left.lines
  pub halted : IsHaltAt s middle later left halt
  pub seen : HasSeenAll inbox.old.senders inbox.ended halt

abbrev pub HasHaltedOn : Dataset → Inbox → Standing → Stopped → Halt → Type 0
HasHaltedOn dataset inbox before left halt = HasHalted dataset.hints.now (dataset_setting dataset) inbox before left halt

-- these were taken, none of them strange
pub record HasServed (hints : Hints) (s : Setting) (inbox : Inbox) (before after : Standing) : Type 0 where
  pub more : List Arrival
  pub taken : IsMore inbox.old more inbox.now
  pub ended : HaveEnded inbox.ended more
  pub run : HasRun hints s more before after

abbrev pub IsNoMore : List Arrival → Halt → Type 0
IsNoMore more halt.Ended = more ≡ []
IsNoMore more (halt.Stranger number) = Unit {0}
IsNoMore more (halt.Fault e) = Unit {0}

-- what still came has its stops, and each number has ended; these were noted before
pub record HasFinished (inbox : Inbox) (before after : List (End OwnerItem)) (noted_before : List Bool) (halt : Halt) : Type 0 where
  pub more : List Arrival
  pub taken : IsMore inbox.old more inbox.now
  pub stopped : Grows before (stops_for more) after
  pub noted : (arrivals : List Arrival) → HaveEnded noted_before arrivals → HaveEnded inbox.ended (arrivals ++ more)
  pub all : AllHaveEnded inbox.old.senders inbox.ended
  pub last : IsNoMore more halt

-- along the first of all that was taken nothing was strange, and with the last of it each offer has its item
pub record Outcome (hints : Hints) (s : Setting) (inbox : Inbox) (before : Standing) (left : Stopped) (halt : Halt) : Type 0 where
  pub first : List Arrival
  pub last : List Arrival
  pub middle : Standing
  pub taken : IsMore inbox.old (first ++ last) inbox.now
  pub ended : HaveEnded inbox.ended (first ++ last)
  pub all : AllHaveEnded inbox.old.senders inbox.ended
  pub run : HasRun hints s first before middle
  pub order : left.order ≡ middle.order
  pub heard_all : left.heard ≡ middle.heard
  pub stopped : Grows middle.lines (stops (owner_at middle []) last) left.lines
  pub later : List Arrival
  pub more : List Arrival
  pub parts : last ≡ later ++ more
  pub halted : IsHaltAt s middle later left halt
  pub none : IsNoMore more halt

-- of an inbox as it was and is
abbrev pub HasEndedOn : Dataset → Receiver RankItem → Receiver RankItem → Standing → Stopped → Halt → Type 0
HasEndedOn dataset old now before left halt =
    (ended : List Bool) × Outcome dataset.hints.now (dataset_setting dataset) (taken_from old now ended) before left halt

pub record HasHaltCause (before now : ℕ) (halt : Halt) : Type 0 where
  pub later : before ≤ now
  pub failed : of_fault halt ≡ Some fault.Disk → Rose before now
