use Rattle.plan_text.proofs.LineLaws.{joined_four}
use Rattle.plan_text.proofs.json.push_transfer.Goals as goal

pub returns : goal.returns
returns c =
    joined_four _ _ _ _ _ c.in_ok-push_named.ensures c.in_ok-push_numbered.ensures c.in_ok-push_numbered-2.ensures c.in_ok-push.ensures.items
