-- The name of the unlimited dimension, of which there is one at most.
use Rattle.std.specs.Prelude.{◌≡◌, ℕ, List, [], ◌∷◌, Option, None, Some}
use Rattle.std.specs.List.{filter}
use Rattle.nc_base.specs.declared.header.Dim.{Dim}
use Rattle.script_spec.specs.ScriptDefinitions.{is_unlimited, dim_names}

abbrev pub IsRecordName : Option (List ℕ) → List Dim → Type 0
IsRecordName name dims = dim_names (filter is_unlimited dims) ≡ elim name [ None ↦ [] | Some n ↦ n ∷ [] ]
