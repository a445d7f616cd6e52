-- Parts of the made script, under names of their own. (own)
--     temps, depths                 values that rise by one, from so far above the least on
--     temp_row, precip_row          a row of one record
--     temp_band, precip_band        the rows of a rank
--     region_of_band, columns_of    the regions of its puts and of its gets
--     calls_of_record, calls_of_rank
use Rattle.std.specs.Prelude.{ℕ, ◌+◌, ◌*◌, List, [], ◌∷◌, map, ℤ, pos, ◌-ℤ◌}
use Rattle.std.specs.List.{range_with_len}
use Rattle.nc_base.specs.declared.request.Given.{Given}
use Rattle.nc_base.specs.declared.request.Call.{Call}
use Rattle.script_spec.specs.Generator.{band, block, made_calls, of_band, precip_at, record_calls, temp_at}

unfoldable pub temps : ℕ → ℕ → List ℕ
temps first n = map (λ k. 0x3F800000 + (first + k)) (range_with_len 0 n)

unfoldable pub depths : ℕ → ℕ → List ℤ
depths first n = map (λ k. pos (first + k) -ℤ pos 10000) (range_with_len 0 n)

unfoldable pub temp_row : ℕ → ℕ → ℕ → List ℕ
temp_row seed t y = map (λ x. temp_at seed t y x) (range_with_len 0 360)

unfoldable pub precip_row : ℕ → ℕ → ℕ → List ℤ
precip_row seed t y = map (λ x. precip_at seed t y x) (range_with_len 0 360)

unfoldable pub temp_band : ℕ → ℕ → ℕ → List ℕ
temp_band seed r t = band r (temp_at seed t)

unfoldable pub precip_band : ℕ → ℕ → ℕ → List ℤ
precip_band seed r t = band r (precip_at seed t)

unfoldable pub region_of_band : ℕ → ℕ → Given
region_of_band r t = of_band r t

-- a column of each record
unfoldable pub columns_of : ℕ → ℕ → Given
columns_of size r = block (0 ∷ 0 ∷ 45 * r ∷ []) (size ∷ 180 ∷ 1 ∷ [])

unfoldable pub calls_of_record : ℕ → ℕ → ℕ → List Call
calls_of_record seed r t = record_calls seed r t

unfoldable pub calls_of_rank : ℕ → ℕ → ℕ → List Call
calls_of_rank seed size r = made_calls seed size r
