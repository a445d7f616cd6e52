-- What the watchers of a run read. (own)
--     AreReadings told numbers    how many steps one watcher saw at each of its readings, in a run of so many steps
--     seen_counts told            the record count after each step that was told
use Rattle.std.specs.Prelude.{◌≡◌, ◌≤◌, ◌<◌, ℕ, List, length, map, slice_index}
use Rattle.nc_base.specs.declared.step.Mark.{Mark}

-- seventeen readings, none with fewer steps than the one before; the last one saw the whole run
pub record AreReadings (told : ℕ) (numbers : List ℕ) : Type 0 where
  pub long : length numbers ≡ 17
  pub rise : (i j : ℕ) → i ≤ j → j < 17 → slice_index numbers i ≤ slice_index numbers j
  pub last : slice_index numbers 16 ≡ told

abbrev pub seen_counts : List (Mark × ℕ) → List ℕ
seen_counts told = map (λ t. t.1) told
