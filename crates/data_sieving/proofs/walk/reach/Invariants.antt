-- The entries so far reach up to `end`.
use Rattle.data_sieving.proofs.Words.{take, Reach}
use Rattle.data_sieving.proofs.walk.reach.Given as goal

abbrev pub invariant-loop-entry : goal.invariant-loop-entry
invariant-loop-entry l = Reach l.at l.stop (take l.entry-index l.carried) l.end
