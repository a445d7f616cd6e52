-- One number more.
use Rattle.std.proofs.lemmas.Bool.Decides.{nat_tests}
use native.Mathlib.Omega.{arith}
use Rattle.reference.proofs.GatherLaws.{range_more}
use Rattle.reference.proofs.elements.push_range.Goals as goal

pub loop-k-preserved : goal.loop-k-preserved
loop-k-preserved c = grind (arith, nat_tests, range_more, c.loop-k.invariant)
