-- The header has no such attribute.
use Rattle.nc_classic_c.proofs.Words.{inr, refl}
use Rattle.nc_classic_c.proofs.Answering.{number_kept}
use Rattle.nc_classic_c.proofs.attributes.ncv_inq_att.Goals as goal

pub returns-in-Err-attribute_at : goal.returns-in-Err-attribute_at
returns-in-Err-attribute_at c = inr (c.in-Err-attribute_at.refusal, number_kept _ c.in-Err-attribute_at.refusal c.number_of.ensures, (inr (c.in-Ok.header, c.in-Ok.ensures.header, c.in-Err-attribute_at.ensures.refused), refl, refl, refl))
