-- Memory keeps the values so far.
use Rattle.nc_classic_c.proofs.Words.{◌≡◌, ℕ, ◌<◌, true, fits}
use Rattle.nc_classic_c.proofs.ValueLaws.{value_in}
use Rattle.nc_classic_c.proofs.unpacking.first_out.Given as goal

abbrev pub invariant-loop-k : goal.invariant-loop-k
invariant-loop-k g l = (j : ℕ) → j < l.k → fits g.T.Kept.same (value_in l.kind l.bytes j) ≡ true
