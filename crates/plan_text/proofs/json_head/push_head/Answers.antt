use Rattle.plan_text.proofs.Cited.{digits}
use Rattle.plan_text.proofs.LineLaws.{joined_four}
use Rattle.plan_text.proofs.json_head.push_head.Goals as goal

pub returns : goal.returns
unfolding digits
returns c =
    joined_four _ _ _ _ _ (rw c.from.ensures at c.in_ok-push_numbered.ensures) c.in_ok-push_bytes.ensures (rw c.as_slice.ensures at c.in_ok-push_order.ensures)
    (joined_four _ _ _ _ _ c.in_ok-push_bytes-2.ensures c.in_ok-push_dataset.ensures c.in_ok-push_bytes-3.ensures c.in_ok-push_hints.ensures)
