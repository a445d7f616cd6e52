use Rattle.plan_text.proofs.Cited.{then_append, then_three}
use Rattle.plan_text.proofs.sums.push_sums.Goals as goal

pub returns : goal.returns
returns c =
    let counted = then_three _ _ _ _ c.in_ok-push_bytes.ensures c.in_ok-push_number_line.ensures c.in_ok-push_moved.ensures in
    then_append _ _ _ _ _ (then_three _ _ _ _ counted c.in_ok-push_beside.ensures c.in_ok-push_beside-2.ensures) (rw c.as_slice.ensures at c.in_ok-push_cells.ensures)
