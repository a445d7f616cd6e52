-- The windows so far, from the top.
use Rattle.opening_plan.proofs.Words.{◌≡◌, ◌++◌, slab_of, calls_before}
use Rattle.opening_plan.proofs.moving.push_move.Given as goal

abbrev pub invariant-loop-number : goal.invariant-loop-number
invariant-loop-number l = l.calls.items ≡ l.initial.calls.items ++ calls_before l.window (slab_of l.slab) l.number
