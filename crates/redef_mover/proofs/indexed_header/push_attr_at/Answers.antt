use Rattle.redef_mover.proofs.Words.{refilled, arith, nat_tests}
use Rattle.redef_mover.proofs.indexed_header.push_attr_at.Goals as goal

pub returns-clause-named : goal.returns-clause-named
returns-clause-named c = grind (arith, nat_tests, c.in_ok-add_attr.ensures, c.as_slice.ensures, c.give.ensures)

pub returns-clause-grown : goal.returns-clause-grown
returns-clause-grown c = grind (arith, nat_tests, refilled, c.as_mut_slice.ensures.seen, c.give.auto.vars, c.in_ok-clone.ensures, c.give.ensures)
