use Rattle.std.proofs.lemmas.Bool.Decides.{nat_tests}
use native.Mathlib.Omega.{arith}
use Rattle.nc_base.proofs.EqLaws.{after_some}
use Rattle.nc_base.proofs.bits.BitList.push_each.Goals as goal

pub loop-k-preserved : goal.loop-k-preserved
loop-k-preserved c = grind (arith, nat_tests, after_some, c.loop-k.invariant, c.in_ok-push.ensures.ok)
