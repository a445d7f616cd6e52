use Rattle.vara_extents.proofs.Words.{length}
use Rattle.vara_extents.proofs.runs.+inner_run.Given as goal

abbrev pub decreases-inner_run : goal.decreases-inner_run
decreases-inner_run l = length l.ids.now
