use Rattle.nc_base.proofs.Words.{◌≡◌, drop, slice_get, numbers_of_runs}
use Rattle.nc_base.proofs.numbers.number_in_runs.Given as goal

abbrev pub invariant-loop-run : goal.invariant-loop-run
invariant-loop-run l = slice_get (numbers_of_runs (drop l.run-index l.runs)) l.left ≡ slice_get (numbers_of_runs l.runs) l.k
