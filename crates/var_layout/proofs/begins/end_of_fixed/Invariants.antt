use Rattle.var_layout.proofs.CreatedFiles.{FixedSoFar}
use Rattle.var_layout.proofs.begins.end_of_fixed.Given as goal

abbrev pub invariant-loop-k : goal.invariant-loop-k
invariant-loop-k l = FixedSoFar l.header l.align l.len l.k l.end
