use Rattle.plan_text.proofs.LineLaws.{joined_three, joined_four}
use Rattle.plan_text.proofs.json_head.push_plan.Goals as goal

pub returns : goal.returns
returns c =
    joined_four _ _ _ _ _ (rw c.as_slice.ensures at c.in_ok-push_calls.ensures) c.in_ok-push_bytes.ensures c.in_ok-push_steps.ensures
    (joined_three _ _ _ _ c.in_ok-push_close.ensures c.in_ok-push_bytes-2.ensures c.in_ok-push_sums.ensures)
