use Rattle.nc_base.proofs.Words.{arith, nat_tests}
use Rattle.nc_base.proofs.EqLaws.{equal_bits}
use Rattle.nc_base.proofs.bits.BitListPartialEq.eq.Goals as goal

pub returns : goal.returns
returns c = grind (arith, nat_tests, equal_bits, c.if-len.false, c.len.ensures, c.len-2.ensures, c.loop-k.invariant, c.loop-k-test.false, c.len-k-end.ensures)
