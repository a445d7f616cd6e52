-- The stages of a run: what stands between two steps, with ranks that have gone up to their next offers. (own)
--     arrived header own runner   the rank of a runner at its next offer, if there is one
--     arrived_all               the same of all ranks
--     Leads hints s marks a b   where the bytes are told, the steps of these marks lead from one stage to the other
--     LeadsAlike s marks ..     over any file, they lead ranks beside the ones, with their count, to ranks beside the others
--     IsGrownBy r before now    an order to which solo steps of rank r were added
--     RankStage                 what stands between two steps of one rank, whatever count and ranks stand beside it
--     HasGone, HasLed           the steps that were added, of one rank and of all
use Rattle.std.specs.Prelude.{◌≡◌, ℕ, List, [], ◌∷◌, ◌++◌, fold, set, true, Option, Some, None, IfSome, slice_get}
use Rattle.std.specs.List.{list_all}
use Rattle.nc_base.specs.declared.header.Header.{Header}
use Rattle.nc_base.specs.declared.request.Call.{Call}
use Rattle.nc_base.specs.declared.script.Hints.{Hints}
use Rattle.nc_base.specs.declared.step.DiskCall.{DiskCall}
use Rattle.nc_base.specs.declared.step.Mark.{Mark}
use Rattle.nc_outside.specs.Told.{with_end}
use Rattle.serial_spec.specs.FileStep.{Setting}
use Rattle.serial_spec.specs.SerialEnd.{advance}
use Rattle.collective_round.specs.Rounds.{counted}
use Rattle.run_laws.specs.Arrivals.{Arrived, Stand, calls_over, step_to}
use Rattle.run_laws.specs.Ahead.{is_solo_of}
use Rattle.join_laws.specs.Alike.{IsLike}
use Rattle.turn_run.specs.Running.{asking, between}
use Rattle.turn_run.specs.declared.runners.Runner.{Runner}

-- a rank that has gone up to its next offer, if there is one
abbrev pub arrived : Header → List Call → Runner → Arrived
arrived header own runner = elim (runner.held) [ None ↦ advance header (between own runner) | Some o ↦ (asking own runner, Some o) ]

abbrev pub arrived_all : Header → List (List Call) → List Runner → List Arrived
arrived_all header [] runners = []
arrived_all header (own ∷ calls) [] = []
arrived_all header (own ∷ calls) (runner ∷ runners) = arrived header own runner ∷ arrived_all header calls runners

-- bytes and device calls, where they are told, the record count, and the ranks
pub record Stage : Type 0 where
  pub held : Option (List ℕ)
  pub calls : Option (List DiskCall)
  pub records : ℕ
  pub ranks : List Arrived

abbrev pub stage : Option (List ℕ) → Option (List DiskCall) → ℕ → List Arrived → Stage
stage held calls records ranks = record { held = held; calls = calls; records = records; ranks = ranks }

abbrev pub stand_of : List ℕ → Stage → Stand
stand_of file a = (counted file a.records, a.ranks)

pub record IsLed (hints : Hints) (s : Setting) (marks : List Mark) (file : List ℕ) (a b : Stage) : Type 0 where
  pub left : List ℕ
  pub told : b.held ≡ Some left
  pub state : fold (step_to s) (stand_of file a) marks ≡ stand_of left b
  pub calls : b.calls ≡ with_end a.calls (calls_over hints s (stand_of file a) marks)

abbrev pub Leads : Hints → Setting → List Mark → Stage → Stage → Type 0
Leads hints s marks a b = IfSome a.held (λ file. IsLed hints s marks file a b)

-- but for the values that gets gave, whatever the file holds
abbrev pub LeadsAlike : Setting → List Mark → ℕ → List Arrived → ℕ → List Arrived → Type 0
LeadsAlike s marks n from m to = (stand : Stand) → IsLike stand n from → IsLike (fold (step_to s) stand marks) m to

-- ---- marks that are added to an order

pub record IsGrownBy (r : ℕ) (before now : List Mark) : Type 0 where
  pub more : List Mark
  pub grown : now ≡ before ++ more
  pub own : list_all (is_solo_of r) more ≡ true

-- the order, bytes and device calls, where they are told, and the rank at an offer
pub record RankStage : Type 0 where
  pub order : List Mark
  pub held : Option (List ℕ)
  pub calls : Option (List DiskCall)
  pub rank : Arrived

abbrev pub rank_stage : List Mark → Option (List ℕ) → Option (List DiskCall) → Arrived → RankStage
rank_stage order held calls rank = record { order = order; held = held; calls = calls; rank = rank }

-- Rank r goes from one offer to another, whatever count and ranks stand beside it.
pub record HasGone (hints : Hints) (s : Setting) (r : ℕ) (a b : RankStage) : Type 0 where
  pub more : List Mark
  pub grown : b.order ≡ a.order ++ more
  pub own : list_all (is_solo_of r) more ≡ true
  pub led : (records : ℕ) (ranks : List Arrived) → slice_get ranks r ≡ Some a.rank
      → Leads hints s more (stage a.held a.calls records ranks) (stage b.held b.calls records (set ranks r b.rank))
  pub alike : (records : ℕ) (ranks : List Arrived) → slice_get ranks r ≡ Some a.rank → LeadsAlike s more records ranks records (set ranks r b.rank)

pub record HasLed (hints : Hints) (s : Setting) (before now : List Mark) (a b : Stage) : Type 0 where
  pub more : List Mark
  pub grown : now ≡ before ++ more
  pub led : Leads hints s more a b
  pub alike : LeadsAlike s more a.records a.ranks b.records b.ranks
