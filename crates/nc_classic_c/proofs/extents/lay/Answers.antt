-- The extents are laid one by one.
use Rattle.nc_classic_c.proofs.Words.{length, ap, arith, nat_tests}
use Rattle.nc_classic_c.specs.Extents.{shown}
use Rattle.nc_classic_c.proofs.Filling.{item_laid, laid_whole}
use Rattle.nc_classic_c.proofs.extents.lay.Goals as goal

pub loop-extent-init : goal.loop-extent-init
loop-extent-init c = grind (arith, nat_tests, c.into_iter-extent-iterator.ensures.into_iter_gives)

pub loop-extent-preserved : goal.loop-extent-preserved
loop-extent-preserved c =
    grind (arith, nat_tests, item_laid, c.lay.ensures, c.shown.ensures, c.in-Some.ensures.steps, c.loop-extent.invariant.laid, c.loop-extent.invariant.many)

pub overflow_add-total : goal.overflow_add-total
overflow_add-total c = omega (arith, c.requires.few, c.loop-extent.invariant.many, ap length c.in-Some.ensures.steps)

pub returns : goal.returns
returns c = grind (arith, nat_tests, laid_whole, c.in-None.ensures.steps.0, c.loop-extent.invariant.laid, c.loop-extent.invariant.many)
