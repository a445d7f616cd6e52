-- From where the first window begins to where the last one ends.
use Rattle.step_plan.proofs.Words.{ℕ, Option, Some, Extent, arith, nat_tests}
use Rattle.step_plan.proofs.DomainLaws.{reach_is}
use Rattle.step_plan.proofs.domains.reach_of.Goals as goal

abbrev long : ℕ → ℕ → Option Extent
long at len = Some (record { at = at; len = len })

pub returns : goal.returns
returns c = grind (arith, nat_tests, reach_is, c.saturating_sub.ensures, c.saturating_add.ensures, c.in_ok-first.ensures.value, c.in_ok-last.ensures.value)
