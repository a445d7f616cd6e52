use Rattle.vara_extents.proofs.Words.{length}
use Rattle.vara_extents.proofs.runs.+row.Given as goal

abbrev pub decreases-row : goal.decreases-row
decreases-row l = length l.ids.now
