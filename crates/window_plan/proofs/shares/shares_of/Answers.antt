-- The share of one rank more.
use Rattle.window_plan.proofs.Words.{arith, nat_tests}
use Rattle.window_plan.proofs.ShareLaws.{shares_more}
use Rattle.window_plan.proofs.shares.shares_of.Goals as goal

pub loop-rank-preserved : goal.loop-rank-preserved
loop-rank-preserved c = grind (arith, nat_tests, shares_more, c.loop-rank.invariant, c.in_ok-push_share.ensures)
