use Rattle.plan_text.proofs.Cited.{append_assoc, codes, map, mark_word, StepPlan, joined_spaced}
use Rattle.plan_text.proofs.head.push_order.Goals as goal

pub returns : goal.returns
returns c =
    let words = joined_spaced (codes "order") (map (λ (step : StepPlan). mark_word step.mark) c.args.steps.now) in
    simp (c.in_ok-push.ensures.items, c.in_ok-push_marks.ensures, c.in_ok-push_bytes.ensures, words, append_assoc)
