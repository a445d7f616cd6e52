use Rattle.redef_mover.proofs.Ranges.{RangedSoFar}
use Rattle.redef_mover.proofs.layout_faults.out_of_range.Given as goal

abbrev pub invariant-loop-var : goal.invariant-loop-var
invariant-loop-var l = RangedSoFar l.header l.var-index l.bad l.before
