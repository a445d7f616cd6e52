-- The shares of the domains so far that the aggregator serves.
use Rattle.plan_sums.proofs.Words.{◌≡◌, ◌++◌, take, filter, is_served_by, shares_in}
use Rattle.plan_sums.proofs.cells.push_served.Given as goal

abbrev pub invariant-loop-domain : goal.invariant-loop-domain
invariant-loop-domain l = l.shares.items ≡ l.initial.shares.items ++ shares_in (filter (is_served_by l.aggregator) (take l.domain-index l.domains))
