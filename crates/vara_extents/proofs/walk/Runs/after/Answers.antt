-- The next run of a row is a step farther.
use Rattle.vara_extents.proofs.Words.{arith}
use Rattle.vara_extents.proofs.WalkLaws.{inside, run_here, next_in_row}
use Rattle.vara_extents.proofs.walk.Runs.after.Goals as goal

pub overflow_add-result : goal.overflow_add-result
overflow_add-result c =
    omega (arith, run_here c.args.self.now c.args.run c.requires.placed c.requires.there, (inside c.args.self.now c.args.run.number c.requires.ready c.requires.there).low, c.requires.ready.low)

pub returns-clause-placed : goal.returns-clause-placed
returns-clause-placed c = next_in_row c.args.self.now c.args.run c.requires.placed c.requires.there c.if-run-eq0.false
