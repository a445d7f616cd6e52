use Rattle.var_layout.proofs.Words.{arith, nat_tests}
use Rattle.var_layout.proofs.WrittenLengths.{variable_len}
use Rattle.var_layout.proofs.written.var_len.Goals as goal

pub returns : goal.returns
returns c = grind (arith, nat_tests, variable_len, c.count_width-width.ensures, c.len.ensures)
