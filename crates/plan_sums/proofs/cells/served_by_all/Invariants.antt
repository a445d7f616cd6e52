-- What the aggregators so far serve.
use Rattle.plan_sums.proofs.Words.{◌≡◌, map, range_with_len, served_by}
use Rattle.plan_sums.proofs.cells.served_by_all.Given as goal

abbrev pub invariant-loop-aggregator : goal.invariant-loop-aggregator
invariant-loop-aggregator l = l.all.items ≡ map (served_by l.steps) (range_with_len 0 l.aggregator)
