-- The header has no such dimension.
use Rattle.nc_classic_c.proofs.Words.{inr, refl}
use Rattle.nc_classic_c.proofs.Answering.{number_kept}
use Rattle.nc_classic_c.proofs.dimensions.ncv_inq_dim.Goals as goal

pub returns-in-Err-dimension_at : goal.returns-in-Err-dimension_at
returns-in-Err-dimension_at c = inr (c.in-Err-dimension_at.refusal, number_kept _ c.in-Err-dimension_at.refusal c.number_of.ensures, (inr (c.in-Ok.header, c.in-Ok.ensures.header, c.in-Err-dimension_at.ensures.refused), refl, refl))
