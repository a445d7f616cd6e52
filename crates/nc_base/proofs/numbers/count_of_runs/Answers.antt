use Rattle.nc_base.proofs.Words.{take_all, arith, nat_tests}
use Rattle.nc_base.proofs.RunLaws.{count, number}
use Rattle.nc_base.proofs.RunLists.{counted}
use Rattle.nc_base.proofs.numbers.count_of_runs.Goals as goal

pub loop-run-preserved : goal.loop-run-preserved
loop-run-preserved c = counted number count c.args.runs.now c.loop-run.run-index _ _ _ c.loop-run-test.true c.loop-run.invariant c.in_ok-count.ensures.1

pub returns : goal.returns
returns c = grind (arith, nat_tests, take_all, c.loop-run.invariant)
