-- The count so far, and that of the puts that are left.
use Rattle.reference.proofs.Words.{◌≡◌, max, drop, needed_by}
use Rattle.reference.proofs.puts.needed_by.Given as goal

abbrev pub invariant-loop-put : goal.invariant-loop-put
invariant-loop-put l = max l.needed (needed_by l.header (drop l.put-index l.puts)) ≡ needed_by l.header l.puts
