-- The bytes that the owners so far give the rank.
use Rattle.window_plan.proofs.Words.{◌≡◌, take, share_of}
use Rattle.window_plan.proofs.shares.bytes_of.Given as goal

abbrev pub invariant-loop-owner : goal.invariant-loop-owner
invariant-loop-owner l = l.bytes ≡ share_of (take l.owner-index l.owners) l.rank
