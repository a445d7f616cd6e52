-- The cells of the ranks so far.
use Rattle.plan_sums.proofs.Words.{◌≡◌, cells_in}
use Rattle.plan_sums.proofs.cells.cells_of.Given as goal

abbrev pub invariant-loop-rank : goal.invariant-loop-rank
invariant-loop-rank l = l.cells.items ≡ cells_in l.steps l.rank l.nodes
