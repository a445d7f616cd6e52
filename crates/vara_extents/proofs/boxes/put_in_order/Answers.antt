use Rattle.vara_extents.proofs.Words.{IsPermutation-trans}
use Rattle.vara_extents.proofs.boxes.put_in_order.Goals as goal

pub returns-clause-permutation : goal.returns-clause-permutation
returns-clause-permutation c = IsPermutation-trans _ _ _ c.best_axis-axis.ensures c.sort_by_start.ensures.permutation
