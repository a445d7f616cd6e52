use Rattle.redef_mover.proofs.Places.{OldSoFar}
use Rattle.redef_mover.proofs.new_begins.place_old_records.Given as goal

abbrev pub invariant-loop-var : goal.invariant-loop-var
invariant-loop-var l = OldSoFar l.order l.first l.least l.var-index l.fn.places l.places l.end
