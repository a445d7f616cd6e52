-- The windows of the domains that are left are laid next.
use Rattle.nc_classic_c.proofs.Words.{◌≡◌, ◌+◌, length, spans, laid_from}
use Rattle.nc_classic_c.proofs.WindowLaws.{windows_from}
use Rattle.nc_classic_c.proofs.windows.lay_domains.Given as goal

abbrev pub invariant-loop-number : goal.invariant-loop-number
invariant-loop-number l = record {
  laid : laid_from l.total l.from l.into (windows_from l.reach.lo l.reach.hi l.division (spans l.cover) l.number)
      ≡ laid_from 0 l.from l.initial.into (windows_from l.reach.lo l.reach.hi l.division (spans l.cover) 0);
  many : l.total + length (windows_from l.reach.lo l.reach.hi l.division (spans l.cover) l.number) ≡ length (windows_from l.reach.lo l.reach.hi l.division (spans l.cover) 0);
}
