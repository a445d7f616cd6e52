use Rattle.nc_base.proofs.Words.{arith, common_steps, to_z-of_z, nat_tests}
use Rattle.nc_base.proofs.RunLists.{pushed}
use Rattle.nc_base.proofs.numbers.NumberList.push_run.Goals as goal

pub loop-k-preserved : goal.loop-k-preserved
loop-k-preserved c = grind (arith, nat_tests, common_steps, to_z-of_z, pushed, c.loop-k.invariant, c.at.ensures)
