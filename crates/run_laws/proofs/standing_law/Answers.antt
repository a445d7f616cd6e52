use Rattle.run_laws.proofs.Words.{arith, nat_tests}
use Rattle.run_laws.proofs.StandingLaws.{comes_on, comes_to_meeting, comes_to_solo, comes_to_end}
use Rattle.run_laws.proofs.standing_law.Goals as goal

pub returns : goal.returns
returns c = grind (arith, nat_tests, comes_on, comes_to_meeting, comes_to_solo, comes_to_end)
