-- The bytes of those that were carried are copied first, and then those of the ones behind them.
use Rattle.data_sieving.proofs.Words.{◌+◌, in_left, in_right, extents_left, extents_right, arith, nat_tests}
use Rattle.data_sieving.proofs.CollectedSteps.{as_long_twice, collected_twice, fit_as_long}
use Rattle.data_sieving.proofs.get.collect_window.Goals as goal

pub collect_all-requires-clause-ends : goal.collect_all-requires-clause-ends
collect_all-requires-clause-ends c = λ e m. c.requires.ends e (extents_left c.args.next.now.carried.now c.args.next.now.fresh.now e m)

pub collect_all-requires-clause-filled : goal.collect_all-requires-clause-filled
collect_all-requires-clause-filled c = λ o m. c.requires.filled o (in_left c.args.next.now.carried.now c.args.next.now.fresh.now o m)

pub collect_all-requires-clause-fit : goal.collect_all-requires-clause-fit
collect_all-requires-clause-fit c = λ o m. c.requires.fit o (in_left c.args.next.now.carried.now c.args.next.now.fresh.now o m)

pub collect_all-requires-2-clause-ends : goal.collect_all-requires-2-clause-ends
collect_all-requires-2-clause-ends c = λ e m. c.requires.ends e (extents_right c.args.next.now.carried.now c.args.next.now.fresh.now e m)

pub collect_all-requires-2-clause-filled : goal.collect_all-requires-2-clause-filled
collect_all-requires-2-clause-filled c = λ o m. c.requires.filled o (in_right c.args.next.now.carried.now c.args.next.now.fresh.now o m)

pub collect_all-requires-2-clause-fit : goal.collect_all-requires-2-clause-fit
collect_all-requires-2-clause-fit c = grind (arith, nat_tests, fit_as_long, in_right, c.requires.fit)

pub returns-clause-each : goal.returns-clause-each
returns-clause-each c = λ k.
    collected_twice c.args.next.now.window.hull.at (c.args.next.now.window.hull.at + c.args.next.now.window.hull.len) c.args.buf.now
    c.args.next.now.carried.now c.args.next.now.fresh.now c.args.blobs.now c.collect_all.new.blobs c.collect_all-2.new.blobs k (c.collect_all.ensures.each k) (c.collect_all-2.ensures.each k)

pub returns-clause-long : goal.returns-clause-long
returns-clause-long c = as_long_twice c.args.blobs.now c.collect_all.new.blobs c.collect_all-2.new.blobs c.collect_all.ensures.long c.collect_all-2.ensures.long
