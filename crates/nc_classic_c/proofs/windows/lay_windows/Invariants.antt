-- The windows that are left are laid next.
use Rattle.nc_classic_c.proofs.Words.{◌≡◌, ◌+◌, length, windows_left, laid_from, shown, map}
use Rattle.nc_classic_c.proofs.windows.lay_windows.Given as goal

abbrev pub invariant-loop-window : goal.invariant-loop-window
invariant-loop-window l = record {
  laid : laid_from l.next l.from l.into (map (shown l.aggregator) (windows_left l.window-iterator)) ≡ laid_from l.total l.from l.initial.into (map (shown l.aggregator) (windows_left l.fn.windows));
  many : l.next + length (windows_left l.window-iterator) ≡ l.total + length (windows_left l.fn.windows);
}
