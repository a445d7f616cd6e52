-- The values so far are written.
use Rattle.nc_classic_c.proofs.Words.{◌≡◌, map, take, range_with_len}
use Rattle.nc_classic_c.proofs.ValueLaws.{value_in}
use Rattle.nc_classic_c.proofs.unpacking.write_all.Given as goal

abbrev pub invariant-loop-k : goal.invariant-loop-k
invariant-loop-k g l = map g.T.Kept.told (take l.k l.into) ≡ map (value_in l.kind l.bytes) (range_with_len 0 l.k)
