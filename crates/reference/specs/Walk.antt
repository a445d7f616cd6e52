-- A walk along an order by the calls of one rank. (own)
--     own_calls calls r            the calls of rank r
--     own_marks r c k mode x       the marks that call number c of rank r makes, after k meetings
--     BeginWith r order front left the marks of rank r begin with these, and the others are those in `left`
use Rattle.std.specs.Prelude.{◌≡◌, ℕ, List, [], ◌∷◌, ◌++◌, filter, Bool, ◌&&◌, if◌then◌else◌, Some, None, slice_get}
use Rattle.nc_base.specs.declared.request.Call.{Call}
use Rattle.nc_base.specs.declared.step.Mark.{Mark}
use Rattle.nc_base.specs.declared.step.Mark.TheVariants.{Meet, Solo}
use Rattle.serial_spec.specs.History.{concerns, is_collective, is_data}

abbrev pub own_calls : List (List Call) → ℕ → List Call
own_calls calls r = elim (slice_get calls r) [ None ↦ [] | Some own ↦ own ]

abbrev pub own_marks : ℕ → ℕ → ℕ → Bool → Call → List Mark
own_marks r c k independent x =
    if is_collective x then Meet k ∷ [] else if independent && is_data x then Solo r c ∷ [] else []

-- Rank r's marks don't begin with these.
abbrev pub BeginOtherwise : ℕ → List Mark → List Mark → Type 0
BeginOtherwise r order front = (rest : List Mark) → filter (concerns r) order ≡ front ++ rest → ⊥

-- Rank r's marks in `order` are these and then those in `left`.
abbrev pub BeginWith : ℕ → List Mark → List Mark → List Mark → Type 0
BeginWith r order front left = filter (concerns r) order ≡ front ++ filter (concerns r) left
