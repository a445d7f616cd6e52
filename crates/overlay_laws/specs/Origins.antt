-- Where a byte of the file comes from, for requests that overlap: the request that was posted last in rank order counts. (own)
--     origins os                   each byte that entries hold, with its rank, its slot and its place in the post
--     byte_at source origin        the byte
--     IsGreatest said x a          a is said of x, and nothing of a later rank or slot is
--     IsResolved list result       the result has for each byte of the list the greatest origin, and nothing else
use Rattle.std.specs.Prelude.{◌≡◌, ℕ, ◌+◌, ◌<◌, ◌≤◌, List, [], ◌∷◌, map, flat_map, length, ◌⊎◌}
use Rattle.std.specs.List.{range_with_len, enumerate_from}
use Rattle.nc_base.specs.declared.plan.Owned.{Owned}
use Rattle.serial_spec.specs.File.{at}
use Rattle.serial_spec.specs.Said.{Says}
use Rattle.overlay_laws.specs.Entries.{Source, In}

-- rank, slot, and the place in the post's bytes
abbrev pub Origin : Type 0
Origin = ℕ × ℕ × ℕ

abbrev pub origins_of : Owned → List (ℕ × Origin)
origins_of o = enumerate_from o.extent.at (map (λ i. (o.rank, o.slot, i)) (range_with_len o.from o.extent.len))

abbrev pub origins : List Owned → List (ℕ × Origin)
origins os = flat_map origins_of os

abbrev pub byte_at : Source → Origin → ℕ
byte_at source a = at (source a.0 a.1) a.2

-- each entry's bytes are in its post
abbrev pub AreFound : Source → List Owned → Type 0
AreFound source [] = Unit {0}
AreFound source (o ∷ os) = (o.from + o.extent.len ≤ length (source o.rank o.slot)) × AreFound source os

-- a stands before b in rank and slot, or beside it
abbrev pub AtMost : Origin → Origin → Type 0
AtMost a b = (a.0 < b.0) ⊎ ((a.0 ≡ b.0) × (a.1 ≤ b.1))

abbrev pub IsGreatest : List (ℕ × Origin) → ℕ → Origin → Type 0
IsGreatest said x a = Says said x a × ((b : Origin) → Says said x b → AtMost b a)

abbrev pub IsResolved : List Owned → List Owned → Type 0
IsResolved list result =
    ((x : ℕ) (a : Origin) → Says (origins result) x a → IsGreatest (origins list) x a)
    × ((x : ℕ) (a : Origin) → IsGreatest (origins list) x a → Says (origins result) x a)

-- no request holds a byte twice
abbrev pub IsOnceEach : List (ℕ × Origin) → Type 0
IsOnceEach said = (x : ℕ) (a b : Origin) → Says said x a → Says said x b → a.0 ≡ b.0 → a.1 ≡ b.1 → a ≡ b

-- in the order of ranks and slots
abbrev pub IsInOrder : List Owned → Type 0
IsInOrder [] = Unit {0}
IsInOrder (o ∷ os) = ((q : Owned) → In os q → AtMost (o.rank, o.slot, 0) (q.rank, q.slot, 0)) × IsInOrder os
