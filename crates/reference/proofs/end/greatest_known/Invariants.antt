-- The greatest of those so far.
use Rattle.reference.proofs.Words.{◌≡◌, drop, max, most_known}
use Rattle.reference.proofs.end.greatest_known.Given as goal

abbrev pub invariant-loop-runner : goal.invariant-loop-runner
invariant-loop-runner l = max l.known (most_known (drop l.runner-index l.runners)) ≡ most_known l.runners
