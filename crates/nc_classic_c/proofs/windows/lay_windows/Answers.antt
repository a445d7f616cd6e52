-- The windows are laid one by one.
use Rattle.nc_classic_c.proofs.Words.{length, ap, arith, shown, nat_tests}
use Rattle.nc_classic_c.proofs.Filling.{item_laid}
use Rattle.nc_classic_c.proofs.windows.lay_windows.Goals as goal

pub loop-window-init : goal.loop-window-init
loop-window-init c = grind (arith, nat_tests, c.into_iter-window-iterator.ensures.into_iter_gives)

pub loop-window-preserved : goal.loop-window-preserved
loop-window-preserved c =
    grind (arith, nat_tests, item_laid, c.lay.ensures, c.shown.ensures, c.in-Some.ensures.steps, c.loop-window.invariant.laid, c.loop-window.invariant.many)

pub overflow_add-next : goal.overflow_add-next
overflow_add-next c = omega (arith, c.requires.few, c.loop-window.invariant.many, ap length c.in-Some.ensures.steps)

pub returns : goal.returns
returns c = grind (arith, nat_tests, c.in-None.ensures.steps.0, c.loop-window.invariant.laid, c.loop-window.invariant.many)
