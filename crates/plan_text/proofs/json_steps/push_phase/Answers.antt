use Rattle.plan_text.proofs.LineLaws.{joined_three}
use Rattle.plan_text.proofs.json_steps.push_phase.Goals as goal

pub returns : goal.returns
returns c =
    joined_three _ _ _ _ (rw c.as_slice.ensures at c.in_ok-push_all_asked.ensures) (rw c.as_slice-2.ensures at c.in_ok-push_domains.ensures) c.in_ok-push.ensures.items
