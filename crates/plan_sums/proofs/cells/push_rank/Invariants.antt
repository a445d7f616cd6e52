-- The cells of the aggregators so far.
use Rattle.plan_sums.proofs.Words.{◌≡◌, ◌++◌, take, flat_map, some_cell, cell_of}
use Rattle.plan_sums.proofs.cells.push_rank.Given as goal

abbrev pub invariant-loop-served : goal.invariant-loop-served
invariant-loop-served l = l.cells.items ≡ l.initial.cells.items ++ flat_map (λ served. some_cell (cell_of l.rank served)) (take l.served-index l.all)
