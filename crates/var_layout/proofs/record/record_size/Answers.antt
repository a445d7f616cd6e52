use Rattle.var_layout.proofs.Words.{arith, nat_tests}
use Rattle.var_layout.proofs.Soundness.{recsize_whole}
use Rattle.var_layout.proofs.record.record_size.Goals as goal

pub returns : goal.returns
returns c = grind (arith, nat_tests, recsize_whole c.args.header.now c.loop-var.var-index, c.as_slice-var-items.ensures, c.loop-var.invariant)
