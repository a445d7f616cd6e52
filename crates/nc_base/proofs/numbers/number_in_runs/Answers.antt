use Rattle.nc_base.proofs.Words.{List, ◌≡◌, ◌∙◌, sym, arith, to_z-of_z, NumberRun, slice_get, at_drop_all, numbers_of_runs, nat_tests}
use mir.Syntax.{w128}
use mir.Val.{to_z, of_z}
use Rattle.nc_base.proofs.RunLaws.{count, number}
use Rattle.nc_base.proofs.RunLists.{found, skipped}
use Rattle.nc_base.proofs.numbers.number_in_runs.Goals as goal

pub returns-then-left-run : goal.returns-then-left-run
returns-then-left-run c =
    let told : (to_z w128 (of_z w128 c.at.result)) ≡ c.at.result = grind (arith, to_z-of_z) in
    grind (arith, nat_tests, found number count c.args.runs.now c.loop-run.run-index c.loop-run.left, c.at.ensures, c.loop-run-test.true, c.if-left-run.true, c.loop-run.invariant)

pub loop-run-preserved : goal.loop-run-preserved
loop-run-preserved c =
    grind (arith, nat_tests, skipped number count c.args.runs.now c.loop-run.run-index c.loop-run.left, c.loop-run-test.true, c.if-left-run.false, c.loop-run.invariant)

pub returns : goal.returns
returns c =
    sym (at_drop_all (λ (l : List NumberRun). slice_get (numbers_of_runs l) c.loop-run.left) c.args.runs.now c.loop-run.run-index c.loop-run-test.false)
    ∙ c.loop-run.invariant
