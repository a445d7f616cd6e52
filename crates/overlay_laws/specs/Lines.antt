-- Lists of extents in the order of their places. (own)
--     extents list        the extents of entries
--     IsByPlace es        each begins where those before it begin, or later
--     IsInLine es         each that is not empty begins where those before it end, or later
--     EndBelow n es       each ends below n
use Rattle.std.specs.Prelude.{ℕ, ◌+◌, ◌<◌, ◌≤◌, List, [], ◌∷◌, map}
use Rattle.nc_base.specs.declared.plan.Extent.{Extent}
use Rattle.nc_base.specs.declared.plan.Owned.{Owned}
use Rattle.overlay_laws.specs.Entries.{In}

abbrev pub extents : List Owned → List Extent
extents list = map (λ o. o.extent) list

abbrev pub IsByPlace : List Extent → Type 0
IsByPlace [] = Unit {0}
IsByPlace (e ∷ es) = ((d : Extent) → In es d → e.at ≤ d.at) × IsByPlace es

abbrev pub IsInLine : List Extent → Type 0
IsInLine [] = Unit {0}
IsInLine (e ∷ es) = ((d : Extent) → In es d → 1 ≤ d.len → e.at + e.len ≤ d.at) × IsInLine es

abbrev pub EndBelow : ℕ → List Extent → Type 0
EndBelow n es = (e : Extent) → In es e → e.at + e.len < n
