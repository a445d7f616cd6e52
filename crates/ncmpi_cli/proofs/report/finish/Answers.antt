use Rattle.ncmpi_cli.proofs.Words.{arith, nat_tests}
use Rattle.ncmpi_cli.proofs.report.finish.Goals as goal

pub returns-in-Ok-clause-front : goal.returns-in-Ok-clause-front
returns-in-Ok-clause-front g c = λ ended.
    let given = c.give-outcome.ensures.front ended in
    grind (arith, nat_tests, c.as_slice.ensures, c.in-Ok.ensures)
