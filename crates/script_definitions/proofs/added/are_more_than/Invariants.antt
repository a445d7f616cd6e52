use Rattle.script_definitions.proofs.Words.{◌≡◌, length, nat_lt}
use Rattle.script_definitions.proofs.added.are_more_than.Given as goal

abbrev pub invariant-loop-left : goal.invariant-loop-left
invariant-loop-left l = nat_lt l.left (length l.names) ≡ nat_lt l.limit (length l.fn.names)

abbrev pub decreases-loop-left : goal.decreases-loop-left
decreases-loop-left l = length l.names
