-- One zero more.
use Rattle.reference.proofs.Words.{arith, longer, longer-enough, nat_tests}
use Rattle.reference.proofs.GatherLaws.{longer_push}
use Rattle.reference.proofs.bytes.lengthen.Goals as goal

pub loop-length-preserved : goal.loop-length-preserved
loop-length-preserved c = grind (arith, nat_tests, longer, longer_push, c.loop-length-test.true, c.loop-length.invariant.long, c.loop-length.invariant.whole)

pub returns : goal.returns
returns c = grind (arith, nat_tests, longer-enough, c.loop-length-test.false, c.loop-length.invariant.long, c.loop-length.invariant.whole)
