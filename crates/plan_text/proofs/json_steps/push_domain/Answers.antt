use Rattle.plan_text.proofs.LineLaws.{joined_three, joined_four}
use Rattle.plan_text.proofs.json_steps.push_domain.Goals as goal

pub returns : goal.returns
returns c =
    joined_four _ _ _ _ _ c.in_ok-push_bytes.ensures c.in_ok-push_aggregator.ensures c.in_ok-push_numbered.ensures
    (joined_three _ _ _ _ (rw c.end_of.ensures at c.in_ok-push_numbered-2.ensures) (rw c.as_slice.ensures at c.in_ok-push_windows.ensures) c.in_ok-push.ensures.items)
