use Rattle.plan_text.proofs.LineLaws.{joined_four}
use Rattle.plan_text.proofs.json_sums.push_moved.Goals as goal

pub returns : goal.returns
returns c =
    joined_four _ _ _ _ _ c.in_ok-push_tally.ensures c.in_ok-push_tally-2.ensures c.in_ok-push_naive.ensures c.in_ok-push_naive-2.ensures
