-- The extents that are left are laid next.
use Rattle.nc_classic_c.proofs.Words.{◌≡◌, ◌+◌, length, extents_left, laid_from, map}
use Rattle.nc_classic_c.specs.Extents.{shown}
use Rattle.nc_classic_c.proofs.extents.lay.Given as goal

abbrev pub invariant-loop-extent : goal.invariant-loop-extent
invariant-loop-extent l = record {
  laid : laid_from l.total l.from l.into (map shown (extents_left l.extent-iterator)) ≡ laid_from 0 l.from l.initial.into (map shown (extents_left l.fn.extents));
  many : l.total + length (extents_left l.extent-iterator) ≡ length (extents_left l.fn.extents);
}
