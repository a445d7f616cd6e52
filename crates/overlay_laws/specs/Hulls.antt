-- The hulls of windows that are lists of bytes. (own)
--     hulls windows            from the first byte of each window to its last
--     IsAscending xs           each number is below those after it
--     written_over file cells windows     the file with the cells, window by window over the hulls
use Rattle.std.specs.Prelude.{ℕ, ◌+◌, ◌<◌, ◌≤◌, List, [], ◌∷◌, map, fold}
use Rattle.nc_base.specs.declared.script.Hints.{Hints}
use Rattle.serial_spec.specs.DeviceCalls.{first_of, last_of}
use Rattle.serial_spec.specs.Said.{Cell, write_cells}
use Rattle.overlay_laws.specs.Windows.{clips}
use Rattle.overlay_laws.specs.Entries.{In}

abbrev pub hulls : List (List ℕ) → List (ℕ × ℕ)
hulls windows = map (λ w. (first_of w, last_of w + 1)) windows

abbrev pub IsAscending : List ℕ → Type 0
IsAscending [] = Unit {0}
IsAscending (x ∷ xs) = ((y : ℕ) → In xs y → x < y) × IsAscending xs

abbrev pub written_over : List ℕ → List Cell → List (List ℕ) → List ℕ
written_over file cells windows = fold (λ f pieces. write_cells f pieces) file (map (λ w. clips w.0 w.1 cells) (hulls windows))

-- hints of which none is 0
abbrev pub AreHints : Hints → Type 0
AreHints hints = (1 ≤ hints.cb_nodes) × (1 ≤ hints.striping_unit) × (1 ≤ hints.cb_buffer)
