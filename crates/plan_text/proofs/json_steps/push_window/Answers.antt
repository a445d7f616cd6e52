use Rattle.plan_text.proofs.LineLaws.{joined_three, joined_four}
use Rattle.plan_text.proofs.json_steps.push_window.Goals as goal

pub returns : goal.returns
returns c =
    joined_four _ _ _ _ _ c.in_ok-push_numbered.ensures (rw c.end_of.ensures at c.in_ok-push_numbered-2.ensures) c.in_ok-push_truth.ensures
    (joined_three _ _ _ _ c.in_ok-push_window_shares.ensures (rw c.as_slice.ensures at c.in_ok-push_owners.ensures) c.in_ok-push.ensures.items)
