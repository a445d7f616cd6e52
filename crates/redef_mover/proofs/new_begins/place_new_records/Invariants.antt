use Rattle.redef_mover.proofs.Places.{NewSoFar}
use Rattle.redef_mover.proofs.new_begins.place_new_records.Given as goal

abbrev pub invariant-loop-number : goal.invariant-loop-number
invariant-loop-number l = NewSoFar l.header l.n l.first l.number l.fn.places l.places l.begin
