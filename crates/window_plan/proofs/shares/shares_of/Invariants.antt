-- The shares of the ranks so far.
use Rattle.window_plan.proofs.Words.{◌≡◌, flat_map, range_with_len, some_share}
use Rattle.window_plan.proofs.shares.shares_of.Given as goal

abbrev pub invariant-loop-rank : goal.invariant-loop-rank
invariant-loop-rank l = l.shares.items ≡ flat_map (some_share l.owners) (range_with_len 0 l.rank)
