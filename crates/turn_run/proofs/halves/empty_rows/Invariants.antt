use Rattle.turn_run.proofs.Words.{◌≡◌, [], take, map}
use Rattle.turn_run.proofs.halves.empty_rows.Given as goal

abbrev pub invariant-loop-batch : goal.invariant-loop-batch
invariant-loop-batch l = l.table.items ≡ map (λ _. []) (take l._batch-index l.batches)
