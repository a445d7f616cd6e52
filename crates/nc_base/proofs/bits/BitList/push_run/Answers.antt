use Rattle.std.proofs.lemmas.Bool.Decides.{nat_tests}
use native.Mathlib.Omega.{arith}
use Rattle.nc_base.proofs.RunLists.{pushed}
use Rattle.nc_base.proofs.bits.BitList.push_run.Goals as goal

pub loop-k-preserved : goal.loop-k-preserved
loop-k-preserved c = grind (arith, nat_tests, pushed, c.loop-k.invariant, c.in_ok-push.ensures.ok, c.at.ensures)
