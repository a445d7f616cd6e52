-- The header has no dimension of this name.
use Rattle.nc_classic_c.proofs.Words.{inr, refl}
use Rattle.nc_classic_c.proofs.Answering.{number_kept}
use Rattle.nc_classic_c.proofs.dimensions.ncv_inq_dimid.Goals as goal

pub returns-in-Err-dimension_named : goal.returns-in-Err-dimension_named
returns-in-Err-dimension_named c = inr (c.in-Err-dimension_named.refusal, number_kept _ c.in-Err-dimension_named.refusal c.number_of.ensures, (inr (c.in-Ok.header, c.in-Ok.ensures.header, c.in-Err-dimension_named.ensures.refused), refl))
