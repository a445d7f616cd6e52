use Rattle.generated_run.proofs.Words.{◌≡◌, fold, pos, take, ◌+ℤ◌, numbers_of_runs}
use Rattle.generated_run.proofs.sums.sum_runs.Given as goal

abbrev pub invariant-loop-run : goal.invariant-loop-run
invariant-loop-run l = l.total ≡ fold (λ a z. a +ℤ z) (pos 0) (numbers_of_runs (take l.run-index l.runs))
