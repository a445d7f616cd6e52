use Rattle.redef_mover.proofs.Words.{arith, nat_tests}
use Rattle.redef_mover.proofs.Places.{new_none, new_next, new_passed, new_whole}
use Rattle.redef_mover.proofs.new_begins.place_new_records.Goals as goal

pub loop-number-init : goal.loop-number-init
loop-number-init c = new_none c.args.header.now c.args.n c.args.first c.args.places.now

pub loop-number-preserved : goal.loop-number-preserved
loop-number-preserved c =
    grind (arith, nat_tests, new_next, new_passed, c.as_slice-var-items.ensures, c.var-item.is, c.is_record_at.ensures, c.loop-number.invariant)

pub returns : goal.returns
returns c = grind (arith, nat_tests, new_whole, c.as_slice-var-items.ensures, c.loop-number.invariant)
