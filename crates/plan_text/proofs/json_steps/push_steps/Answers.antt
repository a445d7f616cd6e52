use Rattle.plan_text.proofs.Cited.{arith, StepPlan, on_line, step_object}
use Rattle.plan_text.proofs.ArrayLaws.{item_pushed}
use Rattle.plan_text.proofs.json_steps.push_steps.Goals as goal

pub loop-number-preserved : goal.loop-number-preserved
loop-number-preserved c =
    item_pushed (λ (step : StepPlan). on_line (step_object c.args.script.now c.args.plan.now step)) c.push.new.self.items c.loop-number.out.items c.push_comma.new.out.items c.push_step.new.out.items c.as_slice-steps.result.now c.loop-number.number c.index-steps-number.result
    (omega arith) c.index-steps-number.is c.loop-number.invariant c.in_ok-push_comma.ensures c.in_ok-push_step.ensures
