-- The answers of those so far.
use Rattle.reference.proofs.Words.{◌≡◌, map}
use Rattle.reference.proofs.end.answers_of.Given as goal

abbrev pub invariant-loop-runner : goal.invariant-loop-runner
invariant-loop-runner l = l.table.items ≡ map (λ runner. runner.answers) l.yielded
