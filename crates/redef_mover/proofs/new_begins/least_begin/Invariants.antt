use Rattle.redef_mover.proofs.Words.{◌≡◌, least, Old, records_at}
use Rattle.redef_mover.proofs.Places.{begins, least_on, records_left}
use Rattle.redef_mover.proofs.new_begins.least_begin.Given as goal

abbrev pub invariant-loop-number : goal.invariant-loop-number
invariant-loop-number l = least_on l.least (begins (records_left l.header l.n Old l.number)) ≡ least (begins (records_at l.header l.n Old))
