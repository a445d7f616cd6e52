-- The slabs of the old variables from the lowest up: the fixed variables' first, then record by record. (own)
--     rising old new            all slabs, the lowest first
--     changes s                 its place changes
--     gaps at end slabs         the bytes between the slabs in the new file, from `at` to the end, as place and length; some are empty
--     IsRisen a b slabs         the slabs stand one behind another, from place a in the old file and b in the new one
use Rattle.std.specs.Prelude.{ℕ, ◌+◌, ◌-◌, ◌*◌, ◌<◌, ◌≤◌, List, [], ◌∷◌, ◌++◌, map, filter, flat_map, zip, Bool, not, ◌==◌, nat_le}
use Rattle.std.specs.List.{range_with_len}
use Rattle.nc_base.specs.declared.header.Header.{Header}
use Rattle.nc_base.specs.declared.header.Var.{Var}
use Rattle.serial_spec.specs.DeviceCalls.{Slab}
use Rattle.serial_spec.specs.Layout.{is_record, recsize, slab}
use Rattle.serial_spec.specs.Lists.{sorted_by}

-- a variable's slab, or that of record 0
abbrev pub first_slab : Header → Var × Var → Slab
first_slab old (v, w) = record { from = v.begin; to = w.begin; len = slab old v }

abbrev pub stands_below : Slab → Slab → Bool
stands_below s t = nat_le s.from t.from

abbrev pub lowest_first : List Slab → List Slab
lowest_first slabs = sorted_by stands_below slabs

abbrev pub fixed_slabs : Header → Header → List Slab
fixed_slabs old new = lowest_first (map (first_slab old) (filter (λ p. not (is_record old p.0)) (zip old.vars new.vars)))

abbrev pub record_slabs : Header → Header → List Slab
record_slabs old new = lowest_first (map (first_slab old) (filter (λ p. is_record old p.0) (zip old.vars new.vars)))

-- the same slab in record r, where records are so many bytes apart
abbrev pub in_record : ℕ → ℕ → ℕ → Slab → Slab
in_record old_step step r s = record { from = s.from + r * old_step; to = s.to + r * step; len = s.len }

abbrev pub slabs_of_record : Header → Header → ℕ → List Slab
slabs_of_record old new r = map (in_record (recsize old) (recsize new) r) (record_slabs old new)

abbrev pub rising : Header → Header → List Slab
rising old new = fixed_slabs old new ++ flat_map (slabs_of_record old new) (range_with_len 0 old.records)

abbrev pub changes : Slab → Bool
changes s = not (s.from == s.to)

abbrev pub gaps : ℕ → ℕ → List Slab → List (ℕ × ℕ)
gaps at end [] = (at, end - at) ∷ []
gaps at end (s ∷ others) = (at, s.to - at) ∷ gaps (s.to + s.len) end others

abbrev pub IsRisen : ℕ → ℕ → List Slab → Type 0
IsRisen a b [] = Unit {0}
IsRisen a b (s ∷ others) =
    (0 < s.len) × (a ≤ s.from) × (b ≤ s.to) × (s.from ≤ s.to) × IsRisen (s.from + s.len) (s.to + s.len) others
