-- One more entry, of a greater slot.
use Rattle.std.proofs.Common.{◌+◌, take, get_or, arith}
use Rattle.overlap_report.proofs.KeySteps.{nothing, next_at}
use Rattle.step_tests.proofs.ManyEntries.{risen_next, risen_once}
use Rattle.step_tests.proofs.tests.overlaps.slots_rise.Goals as goal

pub loop-entry-preserved : goal.loop-entry-preserved
loop-entry-preserved c =
    risen_next (take c.loop-entry.entry-index c.args.list.now) (take (c.loop-entry.entry-index + 1) c.args.list.now) (get_or c.args.list.now c.loop-entry.entry-index nothing)
    c.loop-entry.least (c.from-slot.result + 1) (next_at c.args.list.now c.loop-entry.entry-index c.loop-entry-test.true) (omega arith) (omega arith) c.loop-entry.invariant

pub returns : goal.returns
returns c = λ yes. risen_once c.args.list.now c.loop-entry.entry-index c.loop-entry.least (omega arith) c.loop-entry.invariant
