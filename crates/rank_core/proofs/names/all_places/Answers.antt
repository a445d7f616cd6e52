use Rattle.rank_core.proofs.Words.{arith, range_more, nat_tests}
use Rattle.rank_core.proofs.names.all_places.Goals as goal

pub loop-place-preserved : goal.loop-place-preserved
loop-place-preserved c = grind (arith, nat_tests, range_more)
