use Rattle.vara_extents.proofs.Words.{length}
use Rattle.vara_extents.proofs.causes.+some_start.Given as goal

abbrev pub decreases-some_start : goal.decreases-some_start
decreases-some_start l = length l.ids.now
