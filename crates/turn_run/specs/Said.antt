-- The answers that a run which was cut off has of its ranks. (own)
--     HasSaid fault a answers   they begin those of a rank at its next offer; after a fault of the disk none is missing
--     SaysAt, AllSay            the same of one rank of a stand, and of all
--     HasReached P ..           the steps that were added lead to a stand of which P holds
--     all_between               where each rank stands between two calls
--     KeepAnswers, HaveHeardInPart     where a meeting was cut off
--     AreAnswers, HaveAnswers   the same by the ranks of the serial run, which wait where they heard their last reply
use Rattle.std.specs.Prelude.{◌≡◌, ℕ, ◌≤◌, ◌⊎◌, List, [], ◌∷◌, ◌++◌, length, fold, Option, Some, IfSome, slice_get}
use Rattle.nc_base.specs.declared.answer.Answer.{Answer}
use Rattle.nc_base.specs.declared.answer.Pair.{Pair}
use Rattle.nc_base.specs.declared.header.Header.{Header}
use Rattle.nc_base.specs.declared.request.Call.{Call}
use Rattle.nc_base.specs.declared.step.Mark.{Mark}
use Rattle.nc_base.specs.declared.step.StepErr.{StepErr}
use Rattle.nc_base.specs.declared.step.StepErr.TheVariants.{Disk}
use Rattle.serial_spec.specs.FileStep.{Setting}
use Rattle.serial_spec.specs.SerialEnd.{Going, after_mark}
use Rattle.serial_spec.specs.Torn.{Begins, HasAnswers}
use Rattle.collective_round.specs.Rounds.{counted}
use Rattle.run_laws.specs.Arrivals.{Arrived, Stand, step_to}
use Rattle.turn_run.specs.Known.{Point}
use Rattle.turn_run.specs.Running.{between, reply_of, HasHeard}
use Rattle.turn_run.specs.declared.runners.Runner.{Runner}

pub record HasSaid (fault : StepErr) (a : Arrived) (answers : List Answer) : Type 0 where
  pub begins : Begins answers a.0.answers
  pub all : fault ≡ Disk → length a.0.answers ≤ length answers

abbrev pub SaysAt : ℕ → StepErr → List Answer → Stand → Type 0
SaysAt r fault answers stand = (a : Arrived) → slice_get stand.1 r ≡ Some a → HasSaid fault a answers

abbrev pub AllSay : StepErr → List Runner → Stand → Type 0
AllSay fault runners stand = (r : ℕ) (runner : Runner) → slice_get runners r ≡ Some runner → SaysAt r fault runner.answers stand

-- from a point with ranks at their next offers to an order
pub record HasReached (P : Stand → Type 0) (s : Setting) (from : Point) (ranks : List Arrived) (now : List Mark) : Type 0 where
  pub more : List Mark
  pub grown : now ≡ from.order ++ more
  pub ends : IfSome from.held (λ file. P (fold (step_to s) (counted file from.records, ranks) more))

abbrev pub all_between : List (List Call) → List Runner → List Going
all_between [] runners = []
all_between (own ∷ calls) [] = []
all_between (own ∷ calls) (runner ∷ runners) = between own runner ∷ all_between calls runners

abbrev pub AreAnswers : Header → StepErr → List Going → List Runner → Type 0
AreAnswers header fault goings runners = (r : ℕ) (g : Going) (runner : Runner) → slice_get goings r ≡ Some g → slice_get runners r ≡ Some runner → HasAnswers header fault g runner.answers

-- from a point with ranks between two calls to an order
pub record HaveAnswers (s : Setting) (fault : StepErr) (from : Point) (goings : List Going) (now : List Mark) (runners : List Runner) : Type 0 where
  pub more : List Mark
  pub grown : now ≡ from.order ++ more
  pub said : IfSome from.held (λ file. AreAnswers s.header fault (fold (after_mark s) (counted file from.records, goings) more).1 runners)

abbrev pub KeepAnswers : List Runner → List Runner → Type 0
KeepAnswers before now = (r : ℕ) (a b : Runner) → slice_get before r ≡ Some a → slice_get now r ≡ Some b → b.answers ≡ a.answers

-- a meeting's reply was heard by some of its ranks
abbrev pub HaveHeardInPart : Option Pair → ℕ → List (List (List ℕ)) → List Runner → List Runner → Type 0
HaveHeardInPart pair records table before now = (r : ℕ) (a b : Runner) (blobs : List (List ℕ)) → slice_get before r ≡ Some a → slice_get now r ≡ Some b → slice_get table r ≡ Some blobs
    → (b.answers ≡ a.answers) ⊎ HasHeard a b (reply_of pair records blobs)
