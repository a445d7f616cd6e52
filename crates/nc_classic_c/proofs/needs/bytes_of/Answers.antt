-- An accepted region has few elements.
use Rattle.nc_classic_c.proofs.Words.{arith, size_of, if_there, nat_tests}
use Rattle.nc_classic_c.proofs.AcceptedRegions.{few_of_accepted}
use Rattle.nc_classic_c.proofs.needs.bytes_of.Goals as goal

pub returns-in-Some : goal.returns-in-Some
returns-in-Some c = grind (arith, nat_tests, few_of_accepted, if_there, c.requires, c.element_count.ensures, c.as_slice.ensures, c.size_of.ensures)
