use Rattle.plan_text.proofs.Cited.{then_three}
use Rattle.plan_text.proofs.head.push_head.Goals as goal

pub returns : goal.returns
returns c =
    let told = then_three _ _ _ _ c.in_ok-push_title.ensures (rw c.as_slice.ensures at c.in_ok-push_order.ensures) c.in_ok-push_dataset.ensures in
    then_three _ _ _ _ told c.in_ok-push_variables.ensures c.in_ok-push_hints.ensures
