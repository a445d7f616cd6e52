-- One byte more.
use Rattle.reference.proofs.Words.{arith, nat_tests}
use Rattle.reference.proofs.GatherLaws.{read_more}
use Rattle.reference.proofs.bytes.read.Goals as goal

pub loop-k-preserved : goal.loop-k-preserved
loop-k-preserved c = grind (arith, nat_tests, read_more, c.loop-k.invariant, c.byte_at.ensures)
