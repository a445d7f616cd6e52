use Rattle.redef_mover.proofs.Words.{arith, nat_tests}
use Rattle.redef_mover.proofs.Places.{begins, least_next, least_whole, left_none, left_passed}
use Rattle.redef_mover.proofs.new_begins.least_begin.Goals as goal

pub loop-number-preserved : goal.loop-number-preserved
loop-number-preserved c =
    grind (arith, nat_tests, begins, least_next, left_passed, c.as_slice-var-items.ensures, c.var-item.is, c.is_record_at.ensures, c.loop-number.invariant)

pub returns : goal.returns
returns c = grind (arith, nat_tests, least_whole, begins, left_none, c.as_slice-var-items.ensures, c.loop-number.invariant)
