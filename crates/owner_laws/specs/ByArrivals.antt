-- What the owner of a file makes of its arrivals, said of them alone. (own)
--     IsDoneByArrivals ..      the order has the marks that the arrivals before the first strange one bring
--     IsCutByArrivals ..       the order has the marks of some first arrivals, none of which is strange
use Rattle.std.specs.Prelude.{◌≡◌, ℕ, List, ◌++◌, Option, None}
use Rattle.nc_base.specs.declared.step.Mark.{Mark}
use Rattle.serial_spec.specs.FileStep.{Setting}
use Rattle.serial_spec.specs.History.{Arrival, done}
use Rattle.owner_laws.specs.Strangers.{before_stranger, first_stranger}

-- from a file with the record count `opening`
pub record IsDoneByArrivals (s : Setting) (ranks opening : ℕ) (arrivals : List Arrival) (marks : List Mark) (number : Option ℕ) : Type 0 where
  pub order : marks ≡ done ranks (before_stranger s ranks opening arrivals)
  pub stranger : number ≡ first_stranger s ranks opening arrivals

pub record IsCutByArrivals (s : Setting) (ranks opening : ℕ) (arrivals : List Arrival) (marks : List Mark) : Type 0 where
  pub first : List Arrival
  pub later : List Arrival
  pub all : arrivals ≡ first ++ later
  pub none_strange : first_stranger s ranks opening first ≡ None
  pub order : marks ≡ done ranks first
