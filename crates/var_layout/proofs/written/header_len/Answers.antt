use Rattle.var_layout.proofs.Words.{arith, nat_tests}
use Rattle.var_layout.proofs.WrittenLengths.{canon_len}
use Rattle.var_layout.proofs.written.header_len.Goals as goal

pub returns : goal.returns
returns c = grind (arith, nat_tests, canon_len)
