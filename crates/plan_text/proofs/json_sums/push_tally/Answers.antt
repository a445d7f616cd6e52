use Rattle.plan_text.proofs.LineLaws.{joined_four}
use Rattle.plan_text.proofs.json_sums.push_tally.Goals as goal

pub returns : goal.returns
returns c =
    joined_four _ _ _ _ _ c.in_ok-push_bytes.ensures c.in_ok-push_numbered.ensures c.in_ok-push_numbered-2.ensures
    (joined_four _ _ _ _ _ c.in_ok-push_numbered-3.ensures c.in_ok-push_numbered-4.ensures c.in_ok-push_numbered-5.ensures c.in_ok-push.ensures.items)
