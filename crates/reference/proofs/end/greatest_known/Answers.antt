-- One rank more.
use Rattle.reference.proofs.Words.{arith, Runner, nat_tests}
use Rattle.reference.proofs.GatherLaws.{greatest_end, greatest_step}
use Rattle.reference.proofs.end.greatest_known.Goals as goal

pub loop-runner-preserved : goal.loop-runner-preserved
loop-runner-preserved c =
    greatest_step (λ (runner : Runner). runner.rank.state.known) c.args.runners.now c.loop-runner.runner-index c.runner-item.result c.loop-runner.known c.known.result c.max-known.result _
    (omega arith) c.runner-item.is c.known.ensures c.max-known.ensures c.loop-runner.invariant

pub returns : goal.returns
returns c = grind (arith, nat_tests, greatest_end, c.loop-runner.invariant)
