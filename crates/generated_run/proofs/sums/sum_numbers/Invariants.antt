use Rattle.generated_run.proofs.Words.{◌≡◌, fold, pos, take, ◌+ℤ◌}
use Rattle.generated_run.proofs.sums.sum_numbers.Given as goal

abbrev pub invariant-loop-k : goal.invariant-loop-k
invariant-loop-k l = l.total ≡ fold (λ a z. a +ℤ z) (pos 0) (take l.k l.numbers)
