use Rattle.vara_extents.proofs.Words.{arith, nat_tests}
use Rattle.vara_extents.proofs.WalkLaws.{inside}
use Rattle.vara_extents.proofs.walk.Runs.place.Goals as goal

pub overflow_mul-number : goal.overflow_mul-number
overflow_mul-number c = grind (arith, nat_tests, inside)

pub place_of-requires : goal.place_of-requires
place_of-requires c = grind (arith, nat_tests, inside c.args.self.now c.args.number c.requires.ready c.requires.there, c.requires.ready.recsize)

pub returns-clause-low : goal.returns-clause-low
returns-clause-low c = omega (arith, c.place_of.ensures, (inside c.args.self.now c.args.number c.requires.ready c.requires.there).placed.low)
