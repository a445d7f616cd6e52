use Rattle.ncmpi_cli.proofs.Words.{arith, nat_tests}
use Rattle.ncmpi_cli.proofs.made_run.sum_up.Goals as goal

pub returns-in-Ok-clause-whole : goal.returns-in-Ok-clause-whole
returns-in-Ok-clause-whole g c = grind (arith, nat_tests, c.give-outcome.ensures.whole, c.as_slice.ensures, c.in-Ok.ensures)

pub returns-in-Ok-clause-front : goal.returns-in-Ok-clause-front
returns-in-Ok-clause-front g c = grind (arith, nat_tests, c.give-outcome.ensures.front, c.as_slice.ensures, c.in-Ok.ensures)

pub returns-in-Err : goal.returns-in-Err
returns-in-Err g c = grind (arith, nat_tests, c.tell.ensures.unlined, c.tell.ensures.order, c.order_of-in-Err.ensures, c.tell.ensures.readings)
