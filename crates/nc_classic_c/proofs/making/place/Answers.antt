-- The layout's fault, and the header with its record count.
use Rattle.nc_classic_c.proofs.Words.{arith, nat_tests}
use Rattle.nc_classic_c.proofs.CountedHeaders.{counted_writable}
use Rattle.nc_classic_c.proofs.making.place.Goals as goal

pub returns-clause-writable : goal.returns-clause-writable
returns-clause-writable c = grind (arith, nat_tests, counted_writable, c.fits.ensures, c.if-not-fits.false)
