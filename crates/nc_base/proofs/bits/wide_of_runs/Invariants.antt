use Rattle.nc_base.proofs.Words.{◌≡◌, take, bits_of_runs}
use Rattle.nc_base.proofs.bits.wide_of_runs.Given as goal

abbrev pub invariant-loop-run : goal.invariant-loop-run
invariant-loop-run l = l.all.items ≡ bits_of_runs (take l.run-index l.runs)
