use Rattle.generated_run.proofs.Words.{◌≡◌, ◌-◌, [], ◌++◌, flat_map, range_with_len, numbers_of_runs, precip_row}
use Rattle.generated_run.proofs.bands.precip_band.Given as goal

abbrev pub invariant-loop-row : goal.invariant-loop-row
invariant-loop-row l = numbers_of_runs l.runs.items ≡ [] ++ flat_map (λ y. precip_row l.seed l.time y) (range_with_len l.first (l.row - l.first))
