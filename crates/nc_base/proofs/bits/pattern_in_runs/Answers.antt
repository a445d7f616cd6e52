use Rattle.nc_base.proofs.Words.{List, ◌∙◌, sym, ap, ℕ, Some, arith, BitRun, slice_get, at_drop_all, bits_of_runs, nat_tests}
use Rattle.nc_base.proofs.BitLaws.{count, pattern}
use Rattle.nc_base.proofs.RunLists.{found, skipped}
use Rattle.nc_base.proofs.bits.pattern_in_runs.Goals as goal

pub returns-then-left-run : goal.returns-then-left-run
returns-then-left-run c =
    ap (λ (z : ℕ). Some z) c.at.ensures
    ∙ sym (found pattern count c.args.runs.now c.loop-run.run-index c.loop-run.left (record { first = 0; step = 0; count = 0 }) c.loop-run-test.true c.if-left-run.true)
    ∙ c.loop-run.invariant

pub loop-run-preserved : goal.loop-run-preserved
loop-run-preserved c =
    grind (arith, nat_tests, skipped pattern count c.args.runs.now c.loop-run.run-index c.loop-run.left, c.loop-run-test.true, c.if-left-run.false, c.loop-run.invariant)

pub returns : goal.returns
returns c =
    sym (at_drop_all (λ (l : List BitRun). slice_get (bits_of_runs l) c.loop-run.left) c.args.runs.now c.loop-run.run-index c.loop-run-test.false)
    ∙ c.loop-run.invariant
