use Rattle.rank_core.proofs.Words.{arith, nat_tests}
use Rattle.rank_core.proofs.StepLaws.{call_few}
use Rattle.rank_core.proofs.WaitLaws.{step_waits}
use Rattle.rank_core.proofs.rank.Rank.step.Goals as goal

pub returns-clause-few : goal.returns-clause-few
returns-clause-few c = grind (arith, nat_tests, call_few, c.do_call.ensures.step)

pub returns-clause-held : goal.returns-clause-held
returns-clause-held c = grind (arith, nat_tests, call_few, c.do_call.ensures.step)

pub returns-clause-waits : goal.returns-clause-waits
returns-clause-waits c = grind (arith, nat_tests, step_waits, c.do_call.ensures.step)
