-- The sorted entries hold what the requests hold.
use Rattle.nc_classic_c.proofs.Words.{arith, nat_tests}
use Rattle.nc_classic_c.proofs.OverlapLaws.{entries_low, pair_of_entries}
use Rattle.nc_classic_c.proofs.overlaps.first_shared.Goals as goal

pub first_pair-requires-clause-ends : goal.first_pair-requires-clause-ends
first_pair-requires-clause-ends c = grind (arith, nat_tests, entries_low, c.as_slice.ensures.value)

pub returns : goal.returns
returns c = grind (arith, nat_tests, pair_of_entries, c.first_pair.ensures, c.as_slice.ensures.value)
