use Rattle.plan_text.proofs.LineLaws.{joined_four}
use Rattle.plan_text.proofs.json_steps.push_file.Goals as goal

pub returns : goal.returns
returns c =
    joined_four _ _ _ _ _ c.in_ok-push_bytes.ensures c.in_ok-push_overlap.ensures c.in_ok-push_bytes-2.ensures
    (joined_four _ _ _ _ _ c.in_ok-push_phase.ensures c.in_ok-push_bytes-3.ensures c.in_ok-push_phase-2.ensures c.in_ok-push_device.ensures)
