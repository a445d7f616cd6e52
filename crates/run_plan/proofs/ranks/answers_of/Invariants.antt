-- The answers of those so far.
use Rattle.run_plan.proofs.Words.{◌≡◌, take, map, without_values}
use Rattle.run_plan.proofs.ranks.answers_of.Given as goal

abbrev pub invariant-loop-runner : goal.invariant-loop-runner
invariant-loop-runner l = l.table ≡ map (λ runner. map without_values runner.answers) (take l.runner-index l.runners)
