-- One more entry that ends below 2^62.
use Rattle.std.proofs.Common.{◌^◌, arith}
use Rattle.overlap_report.proofs.KeySteps.{ends_next, ends_all}
use Rattle.step_tests.proofs.tests.overlaps.end_below.Goals as goal

pub loop-entry-preserved : goal.loop-entry-preserved
loop-entry-preserved c = ends_next c.args.list.now c.loop-entry.entry-index (2 ^ 62) c.loop-entry-test.true c.loop-entry.invariant
    (omega arith)

pub returns : goal.returns
returns c = λ yes. ends_all c.args.list.now c.loop-entry.entry-index (2 ^ 62) (omega arith) c.loop-entry.invariant
