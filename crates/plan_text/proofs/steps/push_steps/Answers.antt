use Rattle.plan_text.proofs.Cited.{◌+◌, refl, arith, next_pushed, step_lines}
use Rattle.plan_text.proofs.steps.push_steps.Goals as goal

pub loop-step-preserved : goal.loop-step-preserved
loop-step-preserved c =
    next_pushed (step_lines c.args.script.now.calls c.args.plan.now.answers) c.args.out.now.items c.loop-step.out.items c.push_step.new.out.items c.as_slice-steps.result.now
    c.loop-step.step-index (c.loop-step.step-index + 1) c.step-item.result (omega arith) c.step-item.is refl c.loop-step.invariant c.in_ok-push_step.ensures
