use Rattle.plan_text.proofs.Cited.{arith, mark_word, StepPlan, json_text}
use Rattle.plan_text.proofs.ArrayLaws.{item_pushed}
use Rattle.plan_text.proofs.json_head.push_order.Goals as goal

pub loop-number-preserved : goal.loop-number-preserved
loop-number-preserved c =
    item_pushed (λ (step : StepPlan). json_text (mark_word step.mark)) c.push.new.self.items c.loop-number.out.items c.push_comma.new.out.items c.push_mark_text.new.out.items c.args.steps.now c.loop-number.number c.index-steps-number.result
    (omega arith) c.index-steps-number.is c.loop-number.invariant c.in_ok-push_comma.ensures c.in_ok-push_mark_text.ensures
