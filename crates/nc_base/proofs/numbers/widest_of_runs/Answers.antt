use Rattle.nc_base.proofs.Words.{◌∙◌, ap, List, take, pos, take_all, take_more, NumberRun, numbers_of_runs, arith, nat_tests}
use Rattle.nc_base.proofs.RunLaws.{runs_push}
use Rattle.nc_base.proofs.numbers.widest_of_runs.Goals as goal

pub loop-run-preserved : goal.loop-run-preserved
loop-run-preserved c =
    let i = c.loop-run.run-index in
    grind (arith, nat_tests, runs_push (take i c.args.runs.now), take_more c.args.runs.now i (record { first = pos 0; step = pos 0; count = 0 }) c.loop-run-test.true, c.in_ok-push_numbers.ensures, c.loop-run.invariant)

pub returns : goal.returns
returns c = c.loop-run.invariant ∙ ap (λ (l : List NumberRun). numbers_of_runs l) (take_all c.loop-run.run-index c.args.runs.now c.loop-run-test.false)
