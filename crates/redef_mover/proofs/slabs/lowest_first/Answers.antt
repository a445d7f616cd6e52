-- A stable sort by place is that of the definitions.
use Rattle.redef_mover.proofs.Words.{arith, nat_tests}
use Rattle.redef_mover.proofs.SortLaws.{sorted_is}
use Rattle.redef_mover.proofs.slabs.lowest_first.Goals as goal

pub returns : goal.returns
returns c = grind (arith, nat_tests, sorted_is, c.in_ok-slabs.ensures, c.in_ok-sort_by_place.ensures.sorted, c.in_ok-sort_by_place.ensures.stable)
