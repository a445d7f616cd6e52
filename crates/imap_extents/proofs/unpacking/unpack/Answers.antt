use Rattle.imap_extents.proofs.Cited.{in_order, arith, nat_tests}
use Rattle.imap_extents.proofs.PositionLaws.{length-positions}
use Rattle.imap_extents.proofs.OrderLaws.{spread_packed}
use Rattle.imap_extents.proofs.PlacingLaws.{spread_found}
use Rattle.imap_extents.proofs.unpacking.unpack.Goals as goal

pub returns-then-region : goal.returns-then-region
returns-then-region c = grind (arith, nat_tests, in_order, spread_packed, c.requires.long, c.if-region.true, c.unpack_front.ensures)

pub last_values-requires-clause-long : goal.last_values-requires-clause-long
last_values-requires-clause-long c = grind (arith, nat_tests, length-positions, c.requires.long, c.deref.ensures.value, c.in_ok-positions.ensures)

pub returns : goal.returns
returns c =
    grind (arith, nat_tests, spread_found, c.deref.ensures.value, c.in_ok-positions.ensures, c.deref-2.ensures.value, c.in_ok-found.ensures, c.values_of.ensures)
