-- The header has no attribute of this name.
use Rattle.nc_classic_c.proofs.Words.{inr, refl}
use Rattle.nc_classic_c.proofs.Answering.{number_kept}
use Rattle.nc_classic_c.proofs.attributes.ncv_inq_attid.Goals as goal

pub returns-in-Err-attribute_named : goal.returns-in-Err-attribute_named
returns-in-Err-attribute_named c = inr (c.in-Err-attribute_named.refusal, number_kept _ c.in-Err-attribute_named.refusal c.number_of.ensures, (inr (c.in-Ok.header, c.in-Ok.ensures.header, c.in-Err-attribute_named.ensures.refused), refl))
