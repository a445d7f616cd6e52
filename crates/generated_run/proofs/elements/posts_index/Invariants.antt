use Rattle.generated_run.proofs.Words.{drop, FindsGiven}
use Rattle.generated_run.proofs.elements.posts_index.Given as goal

abbrev pub invariant-loop-k : goal.invariant-loop-k
invariant-loop-k l = FindsGiven (drop l.k l.calls) l.index
