use Rattle.generated_run.proofs.Words.{◌≡◌, pos, sum, take}
use Rattle.generated_run.proofs.sums.sum_bits.Given as goal

abbrev pub invariant-loop-k : goal.invariant-loop-k
invariant-loop-k l = l.total ≡ pos (sum (take l.k l.patterns))
