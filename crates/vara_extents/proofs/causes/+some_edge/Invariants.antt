use Rattle.vara_extents.proofs.Words.{length}
use Rattle.vara_extents.proofs.causes.+some_edge.Given as goal

abbrev pub decreases-some_edge : goal.decreases-some_edge
decreases-some_edge l = length l.ids.now
