-- The values so far are written.
use Rattle.nc_classic_c.proofs.Words.{◌≡◌, ◌*◌, map, take, size_of, packed}
use Rattle.nc_classic_c.proofs.packing.put_all.Given as goal

abbrev pub invariant-loop-i : goal.invariant-loop-i
invariant-loop-i g l = take (l.i * size_of l.kind) l.into ≡ packed l.kind (map g.T.Kept.told (take l.i l.words))
