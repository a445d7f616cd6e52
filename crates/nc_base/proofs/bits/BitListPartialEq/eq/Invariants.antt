use Rattle.nc_base.proofs.Words.{◌≡◌, ◌<◌, ℕ, slice_get}
use Rattle.nc_base.proofs.bits.BitListPartialEq.eq.Given as goal

abbrev pub invariant-loop-k : goal.invariant-loop-k
invariant-loop-k l = (j : ℕ) → j < l.k → slice_get l.self j ≡ slice_get l.other j
