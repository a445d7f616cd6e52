-- The entries so far reach up to `end`.
use Rattle.data_sieving.proofs.Words.{◌+◌, ◌++◌, length, take}
use Rattle.data_sieving.proofs.HullSteps.{Scanned}
use Rattle.data_sieving.proofs.walk.window_of.Given as goal

abbrev pub invariant-loop-entry : goal.invariant-loop-entry
invariant-loop-entry l = Scanned l.at l.stop l.end l.full (l.carried ++ l.fresh) (l.carried ++ take l.entry-index l.fresh) (length l.carried + l.entry-index)
