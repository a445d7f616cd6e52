use Rattle.generated_run.proofs.Words.{◌≡◌, pos, sum, take, bits_of_runs}
use Rattle.generated_run.proofs.sums.sum_bit_runs.Given as goal

abbrev pub invariant-loop-run : goal.invariant-loop-run
invariant-loop-run l = l.total ≡ pos (sum (bits_of_runs (take l.run-index l.runs)))
