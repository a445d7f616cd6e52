-- One rank more.
use Rattle.run_plan.proofs.Words.{ap, arith, greatest_more, Runner}
use Rattle.run_plan.proofs.ranks.greatest_known.Goals as goal

pub loop-runner-preserved : goal.loop-runner-preserved
loop-runner-preserved c =
    let more = greatest_more (λ (runner : Runner). runner.rank.state.known) c.args.runners.now c.loop-runner.runner-index c.runner-item.result (omega arith) in
    let own = ap (λ (runner : Runner). runner.rank.state.known) c.runner-item.is in
    let known = c.known.ensures in
    let before = c.loop-runner.invariant in
    let most = c.max-known.ensures in
    omega arith
