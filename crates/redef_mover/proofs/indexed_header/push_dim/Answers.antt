use Rattle.redef_mover.proofs.Words.{arith, nat_tests}
use Rattle.redef_mover.proofs.indexed_header.push_dim.Goals as goal

pub returns-clause-placed : goal.returns-clause-placed
returns-clause-placed c = grind (arith, nat_tests, c.in_ok-add_place.ensures, c.as_slice.ensures, c.len.ensures, c.push.ensures.ok)
