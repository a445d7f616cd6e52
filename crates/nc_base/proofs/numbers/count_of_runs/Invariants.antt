use Rattle.nc_base.proofs.Words.{◌≡◌, take, length, numbers_of_runs}
use Rattle.nc_base.proofs.numbers.count_of_runs.Given as goal

abbrev pub invariant-loop-run : goal.invariant-loop-run
invariant-loop-run l = l.count ≡ length (numbers_of_runs (take l.run-index l.runs))
