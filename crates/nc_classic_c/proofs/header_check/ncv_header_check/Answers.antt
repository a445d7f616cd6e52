-- The header's numbers, or the refusal.
use Rattle.nc_classic_c.proofs.Words.{inr, refl, counts_of, arith, nat_tests}
use Rattle.nc_classic_c.proofs.Answering.{number_kept}
use Rattle.nc_classic_c.proofs.header_check.ncv_header_check.Goals as goal

pub returns-in-Ok : goal.returns-in-Ok
returns-in-Ok c = grind (arith, nat_tests, c.in-Ok.ensures.header, c.counts_of.ensures, c.in-Ok.ensures.length)

pub returns-in-Err : goal.returns-in-Err
returns-in-Err c = inr (c.in-Err.refusal, number_kept c.number_of.result c.in-Err.refusal c.number_of.ensures, (c.in-Err.ensures.refused, c.tell.ensures, refl))
