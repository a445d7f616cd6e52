-- The rows of a rank.
use Rattle.generated_run.proofs.Words.{◌≡◌, ℕ, ◌+◌, ◌-◌, refl, flat_map, range_with_len, first_row, precip_band, precip_row, temp_band, temp_row}

pub temp_rows : (seed r t : ℕ) → flat_map (λ y. temp_row seed t y) (range_with_len (first_row r) (first_row (r + 1) - first_row r)) ≡ temp_band seed r t
unfolding temp_row temp_band
temp_rows seed r t = refl

pub precip_rows : (seed r t : ℕ) → flat_map (λ y. precip_row seed t y) (range_with_len (first_row r) (first_row (r + 1) - first_row r)) ≡ precip_band seed r t
unfolding precip_row precip_band
precip_rows seed r t = refl
