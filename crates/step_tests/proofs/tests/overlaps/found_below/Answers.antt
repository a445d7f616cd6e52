-- One more entry whose bytes end below 2^62.
use Rattle.std.proofs.Common.{◌+◌, ◌^◌, take, get_or, arith}
use Rattle.overlap_report.proofs.KeySteps.{nothing, next_at}
use Rattle.step_tests.proofs.ManyEntries.{found_next, found_all}
use Rattle.step_tests.proofs.tests.overlaps.found_below.Goals as goal

pub loop-entry-preserved : goal.loop-entry-preserved
loop-entry-preserved c =
    found_next (take c.loop-entry.entry-index c.args.list.now) (take (c.loop-entry.entry-index + 1) c.args.list.now) (get_or c.args.list.now c.loop-entry.entry-index nothing) (2 ^ 62)
    (next_at c.args.list.now c.loop-entry.entry-index c.loop-entry-test.true) (omega arith) c.loop-entry.invariant

pub returns : goal.returns
returns c = λ yes. found_all c.args.list.now c.loop-entry.entry-index (2 ^ 62) (omega arith) c.loop-entry.invariant
