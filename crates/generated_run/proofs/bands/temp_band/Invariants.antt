use Rattle.generated_run.proofs.Words.{◌≡◌, ◌-◌, [], ◌++◌, flat_map, range_with_len, bits_of_runs, temp_row}
use Rattle.generated_run.proofs.bands.temp_band.Given as goal

abbrev pub invariant-loop-row : goal.invariant-loop-row
invariant-loop-row l = bits_of_runs l.runs.items ≡ [] ++ flat_map (λ y. temp_row l.seed l.time y) (range_with_len l.first (l.row - l.first))
