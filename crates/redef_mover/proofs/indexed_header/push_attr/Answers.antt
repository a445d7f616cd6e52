use Rattle.redef_mover.proofs.Words.{arith, nat_tests}
use Rattle.redef_mover.proofs.indexed_header.push_attr.Goals as goal

pub returns-clause-named : goal.returns-clause-named
returns-clause-named c = grind (arith, nat_tests, c.in_ok-add_attr.ensures, c.as_slice.ensures, c.push.ensures.ok)
