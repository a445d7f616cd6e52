use Rattle.plan_text.proofs.Cited.{ℕ, List, ◌∷◌, ◌++◌, ap, ◌∙◌, file_members, then_append}
use Rattle.plan_text.proofs.LineLaws.{joined_three, joined_four}
use Rattle.plan_text.proofs.ArrayLaws.{closed_end}
use Rattle.plan_text.proofs.json_steps.push_step.Goals as goal

pub returns : goal.returns
returns c =
    let closed = then_append _ _ _ _ _ c.in_ok-push_file.ensures c.in_ok-push.ensures.items ∙ ap (λ (t : List ℕ). c.push_callers.new.out.items ++ 44 ∷ t) (closed_end (file_members c.args.step.now.file)) in
    joined_four _ _ _ _ _ c.in_ok-push_bytes.ensures c.in_ok-push_mark_text.ensures (rw c.is_meeting.ensures at c.in_ok-push_truth.ensures)
    (joined_three _ _ _ _ c.in_ok-push_bytes-2.ensures (rw c.as_slice.ensures at c.in_ok-push_callers.ensures) closed)
