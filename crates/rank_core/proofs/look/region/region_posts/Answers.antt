use Rattle.rank_core.proofs.Words.{arith, nat_tests}
use Rattle.rank_core.proofs.look.region.region_posts.Goals as goal

pub returns-in_err-bytes-clause-refused : goal.returns-in_err-bytes-clause-refused
returns-in_err-bytes-clause-refused c = grind (arith, nat_tests, c.from_residual.ensures.1, c.in_err-bytes.ensures.refused)
