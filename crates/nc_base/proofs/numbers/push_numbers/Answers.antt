use Rattle.nc_base.proofs.Words.{ℕ, ◌∙◌, ◌++◌, ap, arith, steps, common_steps, to_z-of_z, nat_tests}
use Rattle.nc_base.proofs.RunLists.{pushed}
use Rattle.nc_base.proofs.numbers.push_numbers.Goals as goal

pub loop-k-preserved : goal.loop-k-preserved
loop-k-preserved c = grind (arith, nat_tests, common_steps, to_z-of_z, pushed, c.loop-k.invariant, c.at.ensures)

pub returns : goal.returns
returns c = c.loop-k.invariant ∙ ap (λ (n : ℕ). c.args.out.now.items ++ steps c.args.run.first c.args.run.step n) (omega (arith, c.loop-k-test.false, c.loop-k.auto.k-end))
