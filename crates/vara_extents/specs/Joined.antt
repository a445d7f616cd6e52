-- The extents of a region: the bytes of its elements in row-major order, neighbours in file and order joined. (own; the elements
-- and their order are those of the PnetCDF C API reference)
--     joined es                       each extent joined with the one after it where that begins at its end
--     element_extents header var g    the bytes of each element
--     extents_of header var g         the extents of a region
--     cut_by es bytes                 each extent's place with its share of the bytes
--     IsJoined es                     no extent begins where the one before it ends
use Rattle.std.specs.Prelude.{◌≡◌, ℕ, ◌+◌, List, [], ◌∷◌, map, take, drop, ◌==◌, if◌then◌else◌}
use Rattle.nc_base.specs.declared.header.Header.{Header}
use Rattle.nc_base.specs.declared.header.Var.{Var}
use Rattle.nc_base.specs.declared.plan.Extent.{Extent}
use Rattle.nc_base.specs.declared.request.Region.{Region}
use Rattle.serial_spec.specs.ExternalForm.{size_of}
use Rattle.serial_spec.specs.Request.{places}
use Rattle.serial_spec.specs.Said.{Cell}

abbrev pub joined_to : Extent → List Extent → List Extent
joined_to e [] = e ∷ []
joined_to e (d ∷ es) =
    if d.at == e.at + e.len then record { at = e.at; len = e.len + d.len } ∷ es else e ∷ d ∷ es

abbrev pub joined : List Extent → List Extent
joined [] = []
joined (e ∷ es) = joined_to e (joined es)

abbrev pub element_extents : Header → Var → Region → List Extent
element_extents header var g = map (λ x. record { at = x; len = size_of var.kind }) (places header var g)

abbrev pub extents_of : Header → Var → Region → List Extent
extents_of header var g = joined (element_extents header var g)

-- ---- their bytes

abbrev pub cut_by : List Extent → List ℕ → List Cell
cut_by [] bytes = []
cut_by (e ∷ es) bytes = (e.at, take e.len bytes) ∷ cut_by es (drop e.len bytes)

-- ---- how they lie

abbrev pub IsNotNext : Extent → List Extent → Type 0
IsNotNext e [] = Unit {0}
IsNotNext e (d ∷ es) = e.at + e.len ≡ d.at → ⊥

abbrev pub IsJoined : List Extent → Type 0
IsJoined [] = Unit {0}
IsJoined (e ∷ es) = IsNotNext e es × IsJoined es
