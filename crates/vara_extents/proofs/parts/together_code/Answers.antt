use Rattle.vara_extents.proofs.Words.{arith, nat_tests}
use Rattle.vara_extents.proofs.PartLaws.{few_are}
use Rattle.vara_extents.proofs.parts.together_code.Goals as goal

pub returns-then-has_too_many : goal.returns-then-has_too_many
returns-then-has_too_many c = grind (arith, nat_tests, c.as_slice.ensures.value)

pub returns-then-not-is_put : goal.returns-then-not-is_put
returns-then-not-is_put c = grind (arith, nat_tests, few_are, c.as_slice.ensures.value)

pub returns-then-some_meet : goal.returns-then-some_meet
returns-then-some_meet c = grind (arith, nat_tests, few_are)

pub returns : goal.returns
returns c = grind (arith, nat_tests, few_are)
