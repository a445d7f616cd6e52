-- Windows of a file, and the parts of cells that lie in them. (own)
--     clips lo hi cells       the parts of the cells from lo to hi
--     IsPart whole cells      the cells say nothing but what the whole says
--     SomeSays lists x v      some list of cells says v of x
--     IsInOne windows n       each window (from, to) is one, and ends at n or before
--     HasEach windows x       some window has the place
--     HasPlace cells x        some cell has the place
use Rattle.std.specs.Prelude.{fold, ◌≡◌, ℕ, ◌-◌, ◌<◌, ◌≤◌, min, max, List, [], ◌∷◌, map, take, drop, ◌⊎◌, Some}
use Rattle.serial_spec.specs.File.{written, read}
use Rattle.serial_spec.specs.Said.{write_cells, moved_down, Cell, said_at, said_by}

abbrev pub clip : ℕ → ℕ → Cell → Cell
clip lo hi c = (min hi (max lo c.0), take (hi - min hi (max lo c.0)) (drop (lo - c.0) c.1))

abbrev pub clips : ℕ → ℕ → List Cell → List Cell
clips lo hi cells = map (λ c. clip lo hi c) cells

abbrev pub IsPart : List (ℕ × ℕ) → List Cell → Type 0
IsPart whole cells = (x v : ℕ) → said_at (said_by cells) x ≡ Some v → said_at whole x ≡ Some v

abbrev pub AreParts : List (ℕ × ℕ) → List (List Cell) → Type 0
AreParts whole [] = Unit {0}
AreParts whole (cells ∷ lists) = IsPart whole cells × AreParts whole lists

abbrev pub SomeSays : List (List Cell) → ℕ → ℕ → Type 0
SomeSays [] x v = ⊥
SomeSays (cells ∷ lists) x v = (said_at (said_by cells) x ≡ Some v) ⊎ SomeSays lists x v

abbrev pub IsInOne : List (ℕ × ℕ) → ℕ → Type 0
IsInOne [] n = Unit {0}
IsInOne (w ∷ windows) n = (w.0 ≤ w.1) × (w.1 ≤ n) × IsInOne windows n

abbrev pub HasEach : List (ℕ × ℕ) → ℕ → Type 0
HasEach [] x = ⊥
HasEach (w ∷ windows) x = ((w.0 ≤ x) × (x < w.1)) ⊎ HasEach windows x

-- the window from its begin to its end read, overlaid with the parts of the cells in it, and written
abbrev pub read_overlaid : List ℕ → List Cell → ℕ × ℕ → List ℕ
read_overlaid file cells w =
    written file w.0 (write_cells (read file w.0 (w.1 - w.0)) (moved_down w.0 (clips w.0 w.1 cells)))

abbrev pub all_read_overlaid : List ℕ → List Cell → List (ℕ × ℕ) → List ℕ
all_read_overlaid file cells windows = fold (λ f w. read_overlaid f cells w) file windows

abbrev pub HasPlace : List Cell → ℕ → Type 0
HasPlace cells x = (v : ℕ) × (said_at (said_by cells) x ≡ Some v)
