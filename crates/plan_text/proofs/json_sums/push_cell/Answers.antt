use Rattle.plan_text.proofs.Cited.{then_append}
use Rattle.plan_text.proofs.LineLaws.{joined_four}
use Rattle.plan_text.proofs.json_sums.push_cell.Goals as goal

pub returns : goal.returns
returns c =
    joined_four _ _ _ _ _ (rw c.from.ensures at c.in_ok-push_numbered.ensures) (rw c.from-2.ensures at c.in_ok-push_numbered-2.ensures) c.in_ok-push_numbered-3.ensures
    (then_append _ _ _ _ _ c.in_ok-push_numbered-4.ensures c.in_ok-push.ensures.items)
