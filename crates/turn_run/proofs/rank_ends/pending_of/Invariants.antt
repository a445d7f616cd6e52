-- The numbers of those so far.
use Rattle.turn_run.proofs.Words.{◌≡◌, take, map}
use Rattle.turn_run.proofs.rank_ends.pending_of.Given as goal

abbrev pub invariant-loop-end : goal.invariant-loop-end
invariant-loop-end l = l.sizes.items ≡ map (λ end. end.pending) (take l.end-index l.ends)
