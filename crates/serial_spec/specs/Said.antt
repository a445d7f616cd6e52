-- What a list of pairs (place, byte) says of each place of a file: the last pair of a place counts. (own)
-- Puts done one after another, entries of a sorted list, windows and parts of a file all say such pairs.
--     said_at pairs x              what the pairs say of place x: the last pair of that place
--     byte_or said old             the byte that was said, else the old one
--     Says pairs x v               some pair says v of place x
--     IsOneValued pairs            no two pairs say two things of one place
--     write_cells file cells       the file with each cell's bytes from its place on, one cell after another
--     said_by cells                the pairs that cells say: each byte with its place
--     IsWithin cells n             each cell ends at n or before
--     IsFrom lo cells              each cell begins at lo or after
--     moved_down lo cells          the cells as seen from place lo
use Rattle.std.specs.Prelude.{◌≡◌, ℕ, ◌+◌, ◌-◌, ◌≤◌, List, [], ◌∷◌, length, map, fold, flat_map, ◌==◌, ◌⊎◌, if◌then◌else◌, Option, Some, None}
use Rattle.std.specs.List.{enumerate_from}
use Rattle.std.specs.Option.{option_or}
use Rattle.serial_spec.specs.File.{written}

-- ---- what pairs say

-- what one pair says of place x
abbrev pub one_says : {A : Type 0} → ℕ → A → ℕ → Option A
one_says y a x = if y == x then Some a else None

abbrev pub said_at : {A : Type 0} → List (ℕ × A) → ℕ → Option A
said_at [] x = None
said_at (p ∷ ps) x = option_or (said_at ps x) (one_says p.0 p.1 x)

abbrev pub byte_or : Option ℕ → ℕ → ℕ
byte_or None old = old
byte_or (Some v) old = v

abbrev pub Says : {A : Type 0} → List (ℕ × A) → ℕ → A → Type 0
Says [] x v = ⊥
Says (p ∷ ps) x v = ((p.0 ≡ x) × (p.1 ≡ v)) ⊎ Says ps x v

abbrev pub IsOneValued : {A : Type 0} → List (ℕ × A) → Type 0
IsOneValued {A} ps = (x : ℕ) (v w : A) → Says ps x v → Says ps x w → v ≡ w

-- ---- cells

-- a place, and the bytes from there on
abbrev pub Cell : Type 0
Cell = ℕ × List ℕ

abbrev pub write_cells : List ℕ → List Cell → List ℕ
write_cells file cells = fold (λ f cell. written f cell.0 cell.1) file cells

abbrev pub said_by : List Cell → List (ℕ × ℕ)
said_by cells = flat_map (λ cell. enumerate_from cell.0 cell.1) cells

abbrev pub IsWithin : List Cell → ℕ → Type 0
IsWithin [] n = Unit {0}
IsWithin (c ∷ cells) n = (c.0 + length c.1 ≤ n) × IsWithin cells n

abbrev pub IsFrom : ℕ → List Cell → Type 0
IsFrom lo [] = Unit {0}
IsFrom lo (c ∷ cells) = (lo ≤ c.0) × IsFrom lo cells

abbrev pub moved_down : ℕ → List Cell → List Cell
moved_down lo cells = map (λ cell. (cell.0 - lo, cell.1)) cells
