-- The moves of the records that are left and of the fixed variables give the whole.
use Rattle.opening_plan.proofs.Words.{◌≡◌, ◌++◌, reverse, all_calls, listed, below}
use Rattle.opening_plan.proofs.moving.push_moves.Given as goal

abbrev pub invariant-loop-record : goal.invariant-loop-record
invariant-loop-record l =
    l.calls.items ++ all_calls l.window (below l.slabs l.record) ≡ l.initial.calls.items ++ all_calls l.window (reverse (listed l.slabs))
