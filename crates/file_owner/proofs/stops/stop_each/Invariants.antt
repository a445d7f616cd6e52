-- The lines so far have their stops.
use Rattle.file_owner.proofs.Words.{Grows, stop_each}
use Rattle.file_owner.proofs.PutLaws.{below}
use Rattle.file_owner.proofs.stops.stop_each.Given as goal

abbrev pub invariant-loop-number : goal.invariant-loop-number
invariant-loop-number g l = Grows l.initial.back (below l.number stop_each) l.back
