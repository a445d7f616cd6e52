use Rattle.nc_base.proofs.Words.{ℕ, ◌∙◌, ◌++◌, ap, arith, bit_steps, nat_tests}
use Rattle.nc_base.proofs.RunLists.{pushed}
use Rattle.nc_base.proofs.bits.push_patterns.Goals as goal

pub loop-k-preserved : goal.loop-k-preserved
loop-k-preserved c = grind (arith, nat_tests, pushed, c.loop-k.invariant, c.at.ensures)

pub returns : goal.returns
returns c = c.loop-k.invariant ∙ ap (λ (n : ℕ). c.args.out.now.items ++ bit_steps c.args.run.first c.args.run.step n) (omega (arith, c.loop-k-test.false, c.loop-k.auto.k-end))
