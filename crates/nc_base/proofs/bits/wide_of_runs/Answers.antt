use Rattle.nc_base.proofs.Words.{◌∙◌, ap, List, take, get_or, take_all, take_more, BitRun, bits_of_runs, arith, nat_tests}
use Rattle.nc_base.proofs.BitLaws.{runs_push}
use Rattle.nc_base.proofs.bits.wide_of_runs.Goals as goal

pub loop-run-preserved : goal.loop-run-preserved
loop-run-preserved c =
    let i = c.loop-run.run-index in
    grind (arith, nat_tests, runs_push (take i c.args.runs.now) (get_or c.args.runs.now i (record { first = 0; step = 0; count = 0 })), take_more c.args.runs.now i (record { first = 0; step = 0; count = 0 }) c.loop-run-test.true, c.in_ok-push_patterns.ensures, c.loop-run.invariant)

pub returns : goal.returns
returns c = c.loop-run.invariant ∙ ap (λ (l : List BitRun). bits_of_runs l) (take_all c.loop-run.run-index c.args.runs.now c.loop-run-test.false)
