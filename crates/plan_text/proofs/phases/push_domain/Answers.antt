use Rattle.plan_text.proofs.Cited.{append_assoc}
use Rattle.plan_text.proofs.phases.push_domain.Goals as goal

pub returns : goal.returns
returns c =
    let windows = rw c.as_slice.ensures at c.in_ok-push_windows.ensures in
    simp (windows, c.in_ok-push_domain_line.ensures, append_assoc)
