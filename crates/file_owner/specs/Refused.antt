-- What a refused step of the owner leaves, and its run that a fault cut off. (own)
--     IsRefused ..              the file is torn between what it was and what the event makes of it, and the count is either
--     IsRefusedAlone, IsRefusedTogether, IsRefusedArrival     by a number's own step, by a meeting of what is held, by an arrival
--     IsFaultAt ..              where the owner stood that met the fault
--     HasCutService ..          what its ends, its disk and its order tell
use Rattle.std.specs.Prelude.{◌≡◌, ℕ, ◌<◌, List, [], ◌++◌, flat_map, length, Option, Some, IfSome}
use Rattle.std.specs.List.{enumerate_from}
use Rattle.nc_base.specs.declared.step.Offer.{Offer}
use Rattle.nc_base.specs.declared.step.StepErr.{StepErr}
use Rattle.serial_spec.specs.Owner.{Owner, Event, does_meeting, does_solo, event, offers_held, step_offers}
use Rattle.serial_spec.specs.FileStep.{Setting, puts_of}
use Rattle.serial_spec.specs.History.{Arrival}
use Rattle.serial_spec.specs.SharedByte.{covered}
use Rattle.serial_spec.specs.Torn.{IsCutService, IsLeft, OwnerStoodAt}
use Rattle.collective_round.specs.Rounds.{counted}
use Rattle.turn_run.specs.Known.{Point}
use Rattle.file_owner.specs.Owned.{owner_at, AreSingle, HoldSingle, Standing}
use Rattle.file_owner.specs.Service.{Passed}

-- where the bytes were told
abbrev pub IsRefused : Setting → (List ℕ → List ℕ) → (List ℕ → Event) → Standing → Option (List ℕ) → ℕ → Type 0
IsRefused s bytes to before left n =
    IfSome before.told (λ file. (now : List ℕ) × (left ≡ Some now) × IsLeft s.header (bytes file) (counted file before.records) (to file).owner.state now n)

-- a number with its offer, at a call of it
abbrev pub IsRefusedAlone : Setting → ℕ → ℕ × Offer → Standing → Option (List ℕ) → ℕ → Type 0
IsRefusedAlone s call own before left n = IsRefused s (λ file. covered s.header (puts_of own)) (λ file. does_solo s (owner_at before file) own.0 call own.1) before left n

abbrev pub IsRefusedTogether : Setting → Standing → Option (List ℕ) → ℕ → Type 0
IsRefusedTogether s before left n =
    IsRefused s (λ file. covered s.header (flat_map puts_of (enumerate_from 0 (offers_held before.clients)))) (λ file. does_meeting s (owner_at before file) before.clients) before left n

abbrev pub IsRefusedArrival : Setting → Arrival → Standing → Option (List ℕ) → ℕ → Type 0
IsRefusedArrival s a before left n =
    IsRefused s (λ file. covered s.header (flat_map puts_of (step_offers (owner_at before file) a))) (λ file. event s (owner_at before file) a) before left n

-- where no offer both raises the count and brings puts
abbrev pub IsFaultAt : Setting → StepErr → Standing → List Arrival → ℕ → Option (List ℕ) → Type 0
IsFaultAt s fault middle later n held =
    HoldSingle middle.clients → AreSingle later → IfSome middle.told (λ file. (left : List ℕ) × (held ≡ Some left) × OwnerStoodAt s fault (owner_at middle file) later left n)

pub record HasCutService (s : Setting) (fault : StepErr) (d : Owner) (passed : Passed) (at : Point) : Type 0 where
  pub first : List Arrival
  pub later : List Arrival
  pub all : passed.arrivals ≡ first ++ later
  pub left : List ℕ
  pub told : AreSingle passed.arrivals → at.held ≡ Some left
  pub service : IsCutService s fault d first later at.order left at.records passed.put
  pub all_heard : (q : ℕ) (low : q < length d.clients) → (service.gives q low).unheard ≡ []
