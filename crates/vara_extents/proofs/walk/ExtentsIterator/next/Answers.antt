-- The next extent is the first of those left.
use Rattle.vara_extents.proofs.Words.{goes_on, arith, nat_tests}
use Rattle.vara_extents.proofs.WalkLaws.{none_left}
use Rattle.vara_extents.proofs.walk.ExtentsIterator.next.Goals as goal

pub returns-then-self-clause-steps : goal.returns-then-self-clause-steps
returns-then-self-clause-steps c = grind (arith, nat_tests, none_left)

pub returns-clause-steps : goal.returns-clause-steps
returns-clause-steps c = c.front-front.ensures.extent

pub returns-clause-goes : goal.returns-clause-goes
returns-clause-goes c = grind (arith, nat_tests, goes_on, c.front-front.ensures.extent, c.requires.runs, c.front-front.ensures.next)
