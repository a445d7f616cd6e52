-- The boxes of the whole range.
use Rattle.fill_records.proofs.Words.{arith, boxes, nat_tests}
use Rattle.fill_records.proofs.CutLaws.{no_boxes, found_first, boxes_few}
use Rattle.fill_records.proofs.shares.boxes.Goals as goal

pub returns-then-from-to-clause-boxes : goal.returns-then-from-to-clause-boxes
returns-then-from-to-clause-boxes c = grind (arith, nat_tests, no_boxes, c.into_boxes.ensures, c.new-cutter.ensures.found, c.if-from-to.true)

pub returns-clause-boxes : goal.returns-clause-boxes
returns-clause-boxes c =
    grind (arith, nat_tests, found_first, c.new-cutter.ensures.row, c.new-cutter.ensures.found, c.as_slice-counts.ensures, c.in_ok-cut.ensures.found, c.into_boxes-2.ensures)

pub returns-clause-most : goal.returns-clause-most
returns-clause-most c =
    let few = boxes_few c.args.counts.now c.args.from c.args.to c.requires.order c.requires.end in
    grind (arith, nat_tests, found_first, c.new-cutter.ensures.row, c.new-cutter.ensures.found, c.as_slice-counts.ensures, c.in_ok-cut.ensures.found, c.into_boxes-2.ensures)
