-- The numbers of those so far.
use Rattle.run_plan.proofs.Words.{◌≡◌, take, map}
use Rattle.serial_spec.specs.RankMachine as machine
use Rattle.run_plan.proofs.ranks.pending_of.Given as goal

abbrev pub invariant-loop-runner : goal.invariant-loop-runner
invariant-loop-runner l = l.sizes ≡ map (λ runner. machine.pending runner.rank.state) (take l.runner-index l.runners)
