-- What a step needs of the file's length. (own)
--     LieApart size places             the size bytes from each of two places of the list have none in common
--     HasRoom s source puts list n     every byte of the puts and of the entries lies below n
use Rattle.std.specs.Prelude.{◌≡◌, ℕ, ◌<◌, ◌≤◌, List, [], ◌∷◌, map, Some, slice_get}
use Rattle.nc_base.specs.declared.plan.Owned.{Owned}
use Rattle.serial_spec.specs.SharedByte.{Puts, covered}
use Rattle.serial_spec.specs.FileStep.{Setting}
use Rattle.serial_spec.specs.Place.{AreApart}
use Rattle.serial_spec.specs.Said.{IsWithin}
use Rattle.overlay_laws.specs.Entries.{cells_of_puts, Source, cell_of, In}

abbrev pub HasRoom : Setting → Source → Puts → List Owned → ℕ → Type 0
HasRoom s source puts list n =
    (1 ≤ n) × IsWithin (cells_of_puts s.header puts) n × IsWithin (map (λ o. cell_of source o) list) n
    × ((x : ℕ) → In (covered s.header puts) x → x < n)

abbrev pub LieApart : ℕ → List ℕ → Type 0
LieApart size ps = (i j p q : ℕ) → slice_get ps i ≡ Some p → slice_get ps j ≡ Some q → (i ≡ j → ⊥) → AreApart p size q size

-- as many starts and strides as counts, and no stride 0
abbrev pub HaveStrides : List ℕ → List ℕ → List ℕ → Type 0
HaveStrides [] starts strides = Unit {0}
HaveStrides (n ∷ counts) [] strides = ⊥
HaveStrides (n ∷ counts) (s ∷ starts) [] = ⊥
HaveStrides (n ∷ counts) (s ∷ starts) (t ∷ strides) = (1 ≤ t) × HaveStrides counts starts strides
