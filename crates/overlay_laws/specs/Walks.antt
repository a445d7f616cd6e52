-- A cursor over a cover: extents in order with a gap between any two. (own)
--     walked stop fuel bytes       windows one after another, the one that begins at x ending before stop x
--     round_end lo buffer x        the end of the round of x, rounds being of buffer bytes from lo on
--     below stop cover             the part of the cover before stop, above stop cover the part from there on
--     IsCover cover                in order, with a gap between any two, none empty
--     hull_of cover                from its first byte, how long to its last, and whether it has no hole
use Rattle.std.specs.Prelude.{ℕ, zero, suc, ◌+◌, ◌-◌, ◌*◌, ◌/◌, ◌<◌, ◌≤◌, List, [], ◌∷◌, filter, length, Bool, true, false, nat_lt, nat_le, ◌==◌, if◌then◌else◌}
use Rattle.nc_base.specs.declared.plan.Extent.{Extent}
use Rattle.serial_spec.specs.DeviceCalls.{first_of, hull_len}
use Rattle.overlay_laws.specs.Entries.{In}

abbrev pub walked : (ℕ → ℕ) → ℕ → List ℕ → List (List ℕ)
walked stop zero bytes = []
walked stop (suc fuel) [] = []
walked stop (suc fuel) (x ∷ bytes) =
    filter (λ y. nat_lt y (stop x)) (x ∷ bytes) ∷ walked stop fuel (filter (λ y. nat_le (stop x) y) bytes)

abbrev pub round_end : ℕ → ℕ → ℕ → ℕ
round_end lo buffer x = lo + ((x - lo) / buffer + 1) * buffer

abbrev pub below : ℕ → List Extent → List Extent
below stop [] = []
below stop (e ∷ cover) =
    if nat_le stop e.at then []
    else if nat_le (e.at + e.len) stop then e ∷ below stop cover
    else record { at = e.at; len = stop - e.at } ∷ []

abbrev pub above : ℕ → List Extent → List Extent
above stop [] = []
above stop (e ∷ cover) =
    if nat_le stop e.at then e ∷ cover
    else if nat_le (e.at + e.len) stop then above stop cover
    else record { at = stop; len = e.at + e.len - stop } ∷ cover

abbrev pub IsCover : List Extent → Type 0
IsCover [] = Unit {0}
IsCover (e ∷ cover) = (1 ≤ e.len) × ((d : Extent) → In cover d → e.at + e.len < d.at) × IsCover cover

-- one past the last byte, the extents before ending at n
abbrev pub end_after : ℕ → List Extent → ℕ
end_after n [] = n
end_after n (e ∷ cover) = end_after (e.at + e.len) cover

abbrev pub is_single : List Extent → Bool
is_single (e ∷ []) = true
is_single cover = false

abbrev pub first_at : List Extent → ℕ
first_at [] = 0
first_at (e ∷ cover) = e.at

abbrev pub hull_of : List Extent → ℕ × ℕ × Bool
hull_of cover = (first_at cover, end_after 0 cover - first_at cover, is_single cover)

-- what is told of a window of bytes: its first byte, how long to its last, and whether it has no hole
abbrev pub told_of : List ℕ → ℕ × ℕ × Bool
told_of w = (first_of w, hull_len w, length w == hull_len w)

abbrev pub extents_walked : (ℕ → ℕ) → ℕ → List Extent → List (ℕ × ℕ × Bool)
extents_walked stop zero cover = []
extents_walked stop (suc fuel) [] = []
extents_walked stop (suc fuel) (e ∷ cover) =
    hull_of (below (stop e.at) (e ∷ cover)) ∷ extents_walked stop fuel (above (stop e.at) (e ∷ cover))
