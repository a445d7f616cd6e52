use Rattle.vara_extents.proofs.Words.{IsPermutation}
use Rattle.vara_extents.proofs.boxes.best_axis.Given as goal

abbrev pub invariant-loop-axis : goal.invariant-loop-axis
invariant-loop-axis l = IsPermutation l.fn.regions l.regions
