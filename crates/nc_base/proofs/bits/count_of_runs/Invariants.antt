use Rattle.nc_base.proofs.Words.{◌≡◌, take, length, bits_of_runs}
use Rattle.nc_base.proofs.bits.count_of_runs.Given as goal

abbrev pub invariant-loop-run : goal.invariant-loop-run
invariant-loop-run l = l.count ≡ length (bits_of_runs (take l.run-index l.runs))
