-- How far dimensions go, by their ids.
use Rattle.std.specs.Prelude.{ℕ, List, map, Option, slice_get}
use Rattle.nc_base.specs.declared.header.Header.{Header}
use Rattle.serial_spec.specs.Layout.{length_of}
use Rattle.serial_spec.specs.RegionCheck.{bound}
use Rattle.vara_extents.specs.declared.causes.Ends.{Ends}

abbrev pub bounds_of : Header → Ends → List ℕ → List (Option ℕ)
bounds_of header ends ids = map (bound ends.direction ends.known) (map (λ (id : ℕ). length_of (slice_get header.dims id)) ids)
