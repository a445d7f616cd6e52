use Rattle.rank_core.proofs.Words.{rows_more, arith, nat_tests}
use Rattle.rank_core.proofs.look.filling.repeated.Goals as goal

pub loop-number-preserved : goal.loop-number-preserved
loop-number-preserved c = grind (arith, nat_tests, rows_more, c.loop-number.invariant)
