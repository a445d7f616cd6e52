-- The windows of sieving, in one range.
use Rattle.std.proofs.lemmas.Bool.Decides.{nat_tests}
use native.Mathlib.Omega.{arith}
use Rattle.step_plan.proofs.DomainLaws.{ok_so, sieved_so}
use Rattle.step_plan.proofs.domains.sieved_domain.Goals as goal

pub returns : goal.returns
returns c = grind (arith, nat_tests, ok_so, sieved_so, c.in_ok-windows.ensures.told, c.in_ok-windows.ensures.shared, c.in_one_range.ensures)
