use Rattle.plan_text.proofs.Cited.{then_three}
use Rattle.plan_text.proofs.phases.push_file.Goals as goal

pub returns : goal.returns
returns c =
    let asked = then_three _ _ _ _ (rw c.as_slice.ensures at c.in_ok-push_asked.ensures) (rw c.as_slice-2.ensures at c.in_ok-push_asked-2.ensures) c.in_ok-push_overlap.ensures in
    let written = then_three _ _ _ _ asked c.in_ok-push_growth.ensures (rw c.as_slice-3.ensures at c.in_ok-push_domains.ensures) in
    then_three _ _ _ _ written c.in_ok-push_count.ensures (rw c.as_slice-4.ensures at c.in_ok-push_domains-2.ensures)
