-- The greatest of those so far.
use Rattle.turn_run.proofs.Words.{◌≡◌, take, most_known_of}
use Rattle.turn_run.proofs.rank_ends.greatest_known.Given as goal

abbrev pub invariant-loop-end : goal.invariant-loop-end
invariant-loop-end l = l.known ≡ most_known_of (take l.end-index l.ends)
