-- The header has no variable of this name.
use Rattle.nc_classic_c.proofs.Words.{inr, refl}
use Rattle.nc_classic_c.proofs.Answering.{number_kept}
use Rattle.nc_classic_c.proofs.variables.ncv_inq_varid.Goals as goal

pub returns-in-Err-variable_named : goal.returns-in-Err-variable_named
returns-in-Err-variable_named c = inr (c.in-Err-variable_named.refusal, number_kept _ c.in-Err-variable_named.refusal c.number_of.ensures, (inr (c.in-Ok.header, c.in-Ok.ensures.header, c.in-Err-variable_named.ensures.refused), refl))
