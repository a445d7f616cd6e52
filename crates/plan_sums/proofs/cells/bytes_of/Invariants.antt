-- The rank's bytes so far.
use Rattle.plan_sums.proofs.Words.{◌≡◌, take, bytes_of}
use Rattle.plan_sums.proofs.cells.bytes_of.Given as goal

abbrev pub invariant-loop-share : goal.invariant-loop-share
invariant-loop-share l = l.bytes ≡ bytes_of l.rank (take l.share-index l.shares)
