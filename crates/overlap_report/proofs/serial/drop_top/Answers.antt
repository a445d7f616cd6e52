-- What a pop takes is the first.
use Rattle.overlap_report.proofs.Words.{arith, heap_items, heap_len}
use Rattle.overlap_report.proofs.ClaimSteps.{popped_heap, popped_rest, unchanged_items}
use Rattle.overlap_report.proofs.serial.drop_top.Goals as goal

pub returns-clause-heap : goal.returns-clause-heap
returns-clause-heap c =
    popped_heap (heap_items c.args.heap.now) (heap_items c.pop-top.new.self) c.pop-top.result c.requires.heap c.pop-top.ensures.heap_order
    (unchanged_items (heap_items c.args.heap.now) (heap_items c.pop-top.new.self) (heap_len c.args.heap.now) (heap_len c.pop-top.new.self) c.pop-top.result c.pop-top.ensures.unchanged)

pub returns-clause-rest : goal.returns-clause-rest
returns-clause-rest c =
    popped_rest (heap_items c.args.heap.now) (heap_items c.pop-top.new.self) c.pop-top.result (heap_len c.args.heap.now) c.pop-top.ensures.top c.pop-top.ensures.permutation
    c.pop-top.ensures.none (omega arith)
