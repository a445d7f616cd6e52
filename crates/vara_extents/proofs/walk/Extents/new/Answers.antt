-- Nothing is given when a walk begins.
use Rattle.vara_extents.proofs.Words.{arith, nat_tests}
use Rattle.vara_extents.proofs.walk.Extents.new.Goals as goal

pub returns-clause-extents : goal.returns-clause-extents
returns-clause-extents c = grind (arith, nat_tests, c.run-next.ensures.number, c.new-runs.ensures.extents)
