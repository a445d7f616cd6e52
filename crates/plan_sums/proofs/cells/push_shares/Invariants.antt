-- The shares of the windows so far.
use Rattle.plan_sums.proofs.Words.{◌≡◌, ◌++◌, take, flat_map, shares_of}
use Rattle.plan_sums.proofs.cells.push_shares.Given as goal

abbrev pub invariant-loop-window : goal.invariant-loop-window
invariant-loop-window l = l.shares.items ≡ l.initial.shares.items ++ flat_map shares_of (take l.window-index l.windows)
