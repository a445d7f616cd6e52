use Rattle.vara_extents.proofs.Words.{IsPermutation-trans}
use Rattle.vara_extents.proofs.boxes.best_axis.Goals as goal

pub loop-axis-preserved : goal.loop-axis-preserved
loop-axis-preserved c = IsPermutation-trans _ _ _ c.loop-axis.invariant c.sort_by_start.ensures.permutation
