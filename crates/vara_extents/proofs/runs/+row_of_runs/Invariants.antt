use Rattle.vara_extents.proofs.Words.{length}
use Rattle.vara_extents.proofs.runs.+row_of_runs.Given as goal

abbrev pub decreases-row_of_runs : goal.decreases-row_of_runs
decreases-row_of_runs l = length l.counts.now
