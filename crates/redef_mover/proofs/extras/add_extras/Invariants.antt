use Rattle.redef_mover.proofs.Additions.{AddedSoFar}
use Rattle.redef_mover.proofs.extras.add_extras.Given as goal

abbrev pub invariant-loop-k : goal.invariant-loop-k
invariant-loop-k l = AddedSoFar l.header l.extras l.k l.new
