use Rattle.plan_text.proofs.LineLaws.{joined_three}
use Rattle.plan_text.proofs.json.push_text.Goals as goal

pub returns : goal.returns
returns c =
    joined_three _ _ _ _ c.in_ok-push.ensures.items c.in_ok-push_characters.ensures c.in_ok-push-2.ensures.items
