use Rattle.vara_extents.proofs.Words.{arith, if_there, nat_tests}
use Rattle.vara_extents.proofs.AcceptedLaws.{records_fit}
use Rattle.vara_extents.proofs.needs.records_needed.Goals as goal

pub returns-in-Some : goal.returns-in-Some
returns-in-Some c = grind (arith, nat_tests, records_fit, if_there, c.requires.accepted, c.records.ensures)
