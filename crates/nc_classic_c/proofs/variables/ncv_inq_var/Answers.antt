-- The header has no such variable.
use Rattle.nc_classic_c.proofs.Words.{inr, refl}
use Rattle.nc_classic_c.proofs.Answering.{number_kept}
use Rattle.nc_classic_c.proofs.variables.ncv_inq_var.Goals as goal

pub returns-in-Err-variable_at : goal.returns-in-Err-variable_at
returns-in-Err-variable_at c = inr (c.in-Err-variable_at.refusal, number_kept _ c.in-Err-variable_at.refusal c.number_of.ensures, (inr (c.in-Ok.header, c.in-Ok.ensures.header, c.in-Err-variable_at.ensures.refused), refl, refl, refl))
