-- The runs of a row go up by equal steps.
use Rattle.vara_extents.proofs.Words.{arith, mod_below, nat_tests}
use Rattle.vara_extents.proofs.WalkLaws.{in_row}
use Rattle.vara_extents.proofs.walk.Runs.run.Goals as goal

pub overflow_sub-left : goal.overflow_sub-left
overflow_sub-left c = omega (arith, mod_below c.args.number c.args.self.now.row.runs c.requires.ready.rows.some)

pub returns-clause-placed : goal.returns-clause-placed
returns-clause-placed c = grind (arith, nat_tests, in_row c.args.self.now c.args.number c.if-number-self.at c.requires.ready, c.requires.there)
