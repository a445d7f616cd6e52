use Rattle.nc_base.proofs.Words.{◌≡◌, ◌++◌, take, numbers_of_runs}
use Rattle.nc_base.proofs.numbers.NumberList.push_runs.Given as goal

abbrev pub invariant-loop-run : goal.invariant-loop-run
invariant-loop-run l = l.self ≡ l.initial.self ++ numbers_of_runs (take l.run-index l.runs)
