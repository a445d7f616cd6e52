-- Extents, each of which is a run of a file's bytes. (own)
--     spans extents     their bytes, one extent after another
--     IsOnce bytes      no byte stands twice
use Rattle.std.specs.Prelude.{◌≡◌, ℕ, List, flat_map, Some, slice_get}
use Rattle.std.specs.List.{range_with_len}
use Rattle.nc_base.specs.declared.plan.Extent.{Extent}

abbrev pub spans : List Extent → List ℕ
spans extents = flat_map (λ e. range_with_len e.at e.len) extents

abbrev pub IsOnce : List ℕ → Type 0
IsOnce bytes = (k l x : ℕ) → slice_get bytes k ≡ Some x → slice_get bytes l ≡ Some x → k ≡ l
