use Rattle.plan_text.proofs.Cited.{then_three}
use Rattle.plan_text.proofs.steps.push_step.Goals as goal

pub returns : goal.returns
returns c =
    then_three _ _ _ _ c.in_ok-push_step_title.ensures (rw c.as_slice.ensures at c.in_ok-push_callers.ensures) c.in_ok-push_file.ensures
