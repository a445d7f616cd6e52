-- The calls of one step more.
use Rattle.plan_sums.proofs.Words.{file_calls, StepPlan, []}
use Rattle.plan_sums.proofs.ListLaws.{flat_added}
use Rattle.plan_sums.proofs.calls.steps_calls.Goals as goal

pub loop-step-preserved : goal.loop-step-preserved
loop-step-preserved c =
    flat_added (λ (step : StepPlan). file_calls step.file) c.args.steps.now c.loop-step.step-index c.step-item.result [] c.loop-step.calls.items c.device_calls.new.calls.items
    c.loop-step-test.true c.step-item.is c.loop-step.invariant c.in_ok-device_calls.ensures
