-- The header has no such file.
use Rattle.nc_classic_c.proofs.Words.{inr, refl}
use Rattle.nc_classic_c.proofs.Answering.{number_kept}
use Rattle.nc_classic_c.proofs.sizes.ncv_inq_sizes.Goals as goal

pub returns-in-Err-sizes_for : goal.returns-in-Err-sizes_for
returns-in-Err-sizes_for c = inr (c.in-Err-sizes_for.refusal, number_kept _ c.in-Err-sizes_for.refusal c.number_of.ensures, (inr (c.in-Ok.header, c.in-Ok.ensures.header, c.in-Err-sizes_for.ensures.refused), refl))
