use Rattle.vara_extents.proofs.Words.{arith, nat_tests}
use Rattle.vara_extents.proofs.WalkLaws.{inside}
use Rattle.vara_extents.proofs.walk.Runs.bytes.Goals as goal

pub overflow_mul-result : goal.overflow_mul-result
overflow_mul-result c = grind (arith, nat_tests, inside c.args.self.now 0 c.requires.ready, c.size_of.ensures, c.requires.some)
