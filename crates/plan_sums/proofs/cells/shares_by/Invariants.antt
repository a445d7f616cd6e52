-- The shares of the steps so far.
use Rattle.plan_sums.proofs.Words.{◌≡◌, take, shares_by}
use Rattle.plan_sums.proofs.cells.shares_by.Given as goal

abbrev pub invariant-loop-step : goal.invariant-loop-step
invariant-loop-step l = l.shares.items ≡ shares_by l.aggregator l.direction (take l.step-index l.steps)
