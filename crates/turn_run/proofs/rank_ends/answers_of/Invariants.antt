-- The answers of those so far.
use Rattle.turn_run.proofs.Words.{◌≡◌, map}
use Rattle.turn_run.proofs.rank_ends.answers_of.Given as goal

abbrev pub invariant-loop-end : goal.invariant-loop-end
invariant-loop-end l = l.table.items ≡ map (λ end. end.answers) l.yielded
