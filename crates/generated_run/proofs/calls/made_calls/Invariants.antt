use Rattle.generated_run.proofs.Words.{◌≡◌, [], ◌++◌, map, range_with_len, calls_of_rank}
use Rattle.generated_run.proofs.calls.made_calls.Given as goal

abbrev pub invariant-loop-rank : goal.invariant-loop-rank
invariant-loop-rank l = l.calls ≡ [] ++ map (λ r. calls_of_rank l.seed l.size r) (range_with_len 0 l.rank)
