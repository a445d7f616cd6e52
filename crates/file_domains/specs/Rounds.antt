-- The windows of an aggregator, as a walk over a cover has them left. (own; after Thakur, Gropp and Lusk, "Data Sieving and
-- Collective I/O in ROMIO", 1999, section 5)
--     bytes_in domain cover          the covered bytes of a domain
--     window_told first size w       a window, told by its hull, as a round from the domain's first covered byte on
--     round_windows size bytes       the windows of a domain's covered bytes
--     windows_left walk              the windows that a walk has still to give
use Rattle.std.specs.Prelude.{◌≡◌, ℕ, ◌+◌, ◌-◌, ◌/◌, ◌^◌, ◌<◌, ◌≤◌, List, map, filter, length, Bool, nat_lt, nat_le}
use Rattle.nc_base.specs.declared.plan.Extent.{Extent}
use Rattle.file_domains.specs.declared.walk.Window.{Window}
use Rattle.file_domains.specs.declared.walk.WindowWalk.{WindowWalk}
use Rattle.serial_spec.specs.DeviceCalls.{first_of, windows}
use Rattle.overlay_laws.specs.Entries.{In}
use Rattle.overlay_laws.specs.Lines.{EndBelow}
use Rattle.overlay_laws.specs.Walks.{told_of, IsCover, walked, round_end}
use Rattle.serial_spec.specs.Extents.{spans}

abbrev pub bytes_in : Extent → List Extent → List ℕ
bytes_in domain cover = filter (λ y. nat_lt y (domain.at + domain.len)) (filter (λ y. nat_le domain.at y) (spans cover))

abbrev pub window_told : ℕ → ℕ → ℕ × ℕ × Bool → Window
window_told first size w = record { round = (w.0 - first) / size; hull = record { at = w.0; len = w.1 }; full = w.2 }

abbrev pub round_windows : ℕ → List ℕ → List Window
round_windows size bytes = map (window_told (first_of bytes) size) (map told_of (windows size bytes))

-- the part of a cover that has bytes from a place on, in whole extents
pub record IsLeft (place : ℕ) (whole left : List Extent) : Type 0 where
  pub bytes : filter (λ y. nat_le place y) (spans left) ≡ filter (λ y. nat_le place y) (spans whole)
  pub past : (e : Extent) → In left e → place < e.at + e.len
  pub cover : IsCover left
  pub ends : EndBelow (2 ^ 62) left

-- ---- a walk

-- the covered bytes that it has still to go over
abbrev pub bytes_left : WindowWalk → List ℕ
bytes_left w = filter (λ y. nat_lt y w.end) (filter (λ y. nat_le w.from y) (spans w.cover.now))

abbrev pub windows_left : WindowWalk → List Window
windows_left w = map (window_told w.first w.size) (map told_of (walked (round_end w.first w.size) (length (bytes_left w)) (bytes_left w)))

-- what holds of a walk at every moment
pub record IsWalk (w : WindowWalk) : Type 0 where
  pub cover : IsCover w.cover.now
  pub ends : EndBelow (2 ^ 62) w.cover.now
  pub left : (e : Extent) → In w.cover.now e → w.from < e.at + e.len
  pub first : w.first ≤ w.from
  pub size : 1 ≤ w.size
