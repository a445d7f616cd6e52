use Rattle.generated_run.proofs.Words.{◌≡◌, pos, sum, bit_steps}
use Rattle.generated_run.proofs.sums.sum_bit_run.Given as goal

abbrev pub invariant-loop-k : goal.invariant-loop-k
invariant-loop-k l = l.total ≡ pos (sum (bit_steps l.run.first l.run.step l.k))
