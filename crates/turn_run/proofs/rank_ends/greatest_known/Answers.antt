-- One rank more.
use Rattle.turn_run.proofs.Words.{arith}
use Rattle.turn_run.proofs.TurnKnown.{known_more}
use Rattle.turn_run.proofs.rank_ends.greatest_known.Goals as goal

pub loop-end-preserved : goal.loop-end-preserved
loop-end-preserved c = known_more _ _ _ _ _ (omega arith) c.end-item.is c.loop-end.invariant c.max-known.ensures
