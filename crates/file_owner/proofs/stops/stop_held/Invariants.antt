-- The numbers so far have their stops.
use Rattle.file_owner.proofs.Words.{Grows, held_stops}
use Rattle.file_owner.proofs.PutLaws.{below}
use Rattle.file_owner.proofs.stops.stop_held.Given as goal

abbrev pub invariant-loop-number : goal.invariant-loop-number
invariant-loop-number g l = Grows l.initial.back (below l.number (held_stops l.clients)) l.back
