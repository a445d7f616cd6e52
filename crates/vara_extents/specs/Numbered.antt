-- The elements of a region by their numbers in row-major order. (own)
--     coordinates_of counts k        the coordinates with number k of those below these counts
--     index_of g k                   the index of element k of a region
--     row_of header ids .. k         how many indices of the dimensions stand before that of element k
--     AreRuns place size run total   elements that follow one another in runs
--     HaveRows place run row total   runs that stand in rows
--     weighted weights coordinates   the sum of the coordinates by their weights
use Rattle.std.specs.Prelude.{◌≡◌, ℕ, ◌+◌, ◌*◌, ◌/◌, ◌%◌, ◌<◌, ◌≤◌, ◌⊎◌, List, [], ◌∷◌}
use Rattle.nc_base.specs.declared.header.Header.{Header}
use Rattle.nc_base.specs.declared.request.Region.{Region}
use Rattle.serial_spec.specs.Layout.{lengths_of, product}
use Rattle.serial_spec.specs.Place.{row}
use Rattle.serial_spec.specs.Request.{index_at}

abbrev pub coordinates_of : List ℕ → ℕ → List ℕ
coordinates_of [] k = []
coordinates_of (n ∷ counts) k = k / product counts ∷ coordinates_of counts (k % product counts)

abbrev pub index_of : Region → ℕ → List ℕ
index_of g k = index_at g.start g.stride (coordinates_of g.count k)

abbrev pub row_of : Header → List ℕ → List ℕ → List ℕ → List ℕ → ℕ → ℕ
row_of header ids starts counts strides k = row (lengths_of header ids) (index_at starts strides (coordinates_of counts k))

-- So many elements of size bytes are a whole number of runs, and those of a run stand one after another.
pub record AreRuns (place : ℕ → ℕ) (size run total : ℕ) : Type 0 where
  pub some : 1 ≤ run
  pub parts : (m : ℕ) × (total ≡ m * run)
  pub follow : (q i : ℕ) → i < run → q * run + i < total → place (q * run + i) ≡ place (q * run) + i * size

-- So many runs are a row, in which their places go up by equal steps; or each is a row of its own.
abbrev pub HaveRows : (ℕ → ℕ) → ℕ → ℕ → ℕ → Type 0
HaveRows place run row total = (row ≡ 1) ⊎ ((m : ℕ) × (total ≡ m * run) × (step : ℕ) × AreRuns (λ q. place (q * run)) step row m)

abbrev pub weighted : List ℕ → List ℕ → ℕ
weighted (w ∷ weights) (x ∷ coordinates) = x * w + weighted weights coordinates
weighted _ _ = 0
