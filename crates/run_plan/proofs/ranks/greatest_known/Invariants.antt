-- The greatest of those so far.
use Rattle.run_plan.proofs.Words.{◌≡◌, take, greatest_known}
use Rattle.run_plan.proofs.ranks.greatest_known.Given as goal

abbrev pub invariant-loop-runner : goal.invariant-loop-runner
invariant-loop-runner l = l.known ≡ greatest_known (take l.runner-index l.runners)
