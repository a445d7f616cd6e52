use Rattle.generated_run.proofs.Words.{◌≡◌, fold, ◌+ℤ◌, steps}
use Rattle.generated_run.proofs.sums.sum_run.Given as goal

abbrev pub invariant-loop-k : goal.invariant-loop-k
invariant-loop-k l = l.total ≡ fold (λ a z. a +ℤ z) l.fn.start (steps l.run.first l.run.step l.k)
