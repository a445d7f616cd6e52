-- A file of no bytes has none that are read.
use Rattle.opening_plan.proofs.Words.{arith, nat_tests}
use Rattle.opening_plan.proofs.OpeningLaws.{no_head, some_head}
use Rattle.opening_plan.proofs.opening.push_head.Goals as goal

pub returns-then-size-eq0 : goal.returns-then-size-eq0
returns-then-size-eq0 c = λ file e. no_head file c.args.size c.args.calls.now.items e (omega arith)

pub returns : goal.returns
returns c = grind (arith, nat_tests, some_head, c.min.ensures)
