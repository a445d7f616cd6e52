-- The shares of one step more.
use Rattle.plan_sums.proofs.Words.{◌∙◌, ap, Phase}
use Rattle.plan_sums.proofs.CellLaws.{step_more}
use Rattle.plan_sums.proofs.cells.shares_by.Goals as goal

pub loop-step-preserved : goal.loop-step-preserved
loop-step-preserved c =
    step_more c.args.aggregator c.args.direction c.args.steps.now c.loop-step.step-index c.step-item.result c.as_slice-domains.result.now c.loop-step.shares.items
    c.push_served.new.shares.items c.loop-step-test.true c.step-item.is c.loop-step.invariant (c.as_slice-domains.ensures ∙ ap (λ (p : Phase). p.domains) c.phase_of.ensures)
    c.in_ok-push_served.ensures
