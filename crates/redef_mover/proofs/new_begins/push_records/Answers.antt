use Rattle.redef_mover.proofs.Words.{arith, nat_tests}
use Rattle.redef_mover.proofs.Places.{pushed, passed, all_pushed}
use Rattle.redef_mover.proofs.new_begins.push_records.Goals as goal

pub loop-number-preserved : goal.loop-number-preserved
loop-number-preserved c = grind (arith, nat_tests, pushed, passed, c.as_slice-var-items.ensures, c.var-item.is, c.is_record_at.ensures, c.loop-number.invariant)

pub returns : goal.returns
returns c = grind (arith, nat_tests, all_pushed, c.as_slice-var-items.ensures, c.loop-number.invariant)
