-- So many are made.
use Rattle.nc_classic_c.proofs.Words.{◌≡◌, map, take}
use Rattle.nc_classic_c.proofs.tables.make_all.Given as goal

abbrev pub invariant-loop-one : goal.invariant-loop-one
invariant-loop-one g l = l.items ≡ map g.D.Defines.made (take l.one-index l.defined)
