-- The extents don't depend on the rows.
use Rattle.std.proofs.lemmas.Bool.Decides.{nat_tests}
use native.Mathlib.Omega.{arith}
use Rattle.vara_extents.proofs.walk.Runs.new.Goals as goal

pub returns-clause-ready : goal.returns-clause-ready
returns-clause-ready c =
    let ready = c.alone-runs.ensures.ready in
    grind (arith, nat_tests, c.longest_row-row.ensures.rows, c.longest_row-row.ensures.low)

pub returns-clause-extents : goal.returns-clause-extents
returns-clause-extents c = c.alone-runs.ensures.extents
