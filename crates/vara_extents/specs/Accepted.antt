-- Regions that a check accepts.
use Rattle.std.specs.Prelude.{◌≡◌, ℕ}
use Rattle.nc_base.specs.declared.header.Header.{Header}
use Rattle.nc_base.specs.declared.request.Region.{Region}
use Rattle.nc_base.specs.declared.request.Direction.{Direction}
use Rattle.nc_base.specs.declared.answer.Code.TheVariants as code
use Rattle.serial_spec.specs.RegionCheck.{check}

-- with some known record count, in some direction
abbrev pub IsAccepted : Header → ℕ → Region → Type 0
IsAccepted header var g = (known : ℕ) × (direction : Direction) × (check header var g known direction ≡ code.Ok)
