use Rattle.generated_run.proofs.Words.{◌≡◌, ◌++◌, flat_map, range_with_len, calls_of_record}
use Rattle.generated_run.proofs.calls.push_records.Given as goal

abbrev pub invariant-loop-time : goal.invariant-loop-time
invariant-loop-time l = l.calls ≡ l.initial.calls ++ flat_map (λ t. calls_of_record l.seed l.rank t) (range_with_len 0 l.time)
