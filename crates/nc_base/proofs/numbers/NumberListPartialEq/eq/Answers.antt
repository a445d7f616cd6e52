use Rattle.nc_base.proofs.Words.{arith, same_Some, ints, nat_tests}
use Rattle.nc_base.proofs.EqLaws.{equal_numbers, other_numbers}
use Rattle.nc_base.proofs.numbers.NumberListPartialEq.eq.Goals as goal

pub returns-then-at : goal.returns-then-at
returns-then-at c = grind (arith, nat_tests, other_numbers, same_Some, ints, c.at.ensures, c.at-in-loop-k.ensures, c.if-at.true)

pub returns : goal.returns
returns c = grind (arith, nat_tests, equal_numbers, c.if-len.false, c.len.ensures, c.len-2.ensures, c.loop-k.invariant, c.loop-k-test.false, c.len-k-end.ensures)
