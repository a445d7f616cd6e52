-- What one step more asks for.
use Rattle.plan_sums.proofs.Words.{◌++◌, ◌∙◌, ap, take, List, Asked, Phase, StepPlan, asked_in, naive_sum, phase_of}
use Rattle.plan_sums.proofs.ListLaws.{flat_next}
use Rattle.plan_sums.proofs.naive.naive_of.Goals as goal

pub loop-step-preserved : goal.loop-step-preserved
loop-step-preserved c =
    let steps = c.args.steps.now in
    let i = c.loop-step.step-index in
    let direction = c.args.direction in
    c.with-naive.ensures (asked_in direction (take i steps)) c.loop-step.invariant
    ∙ ap (λ (asked : List Asked). naive_sum (asked_in direction (take i steps) ++ asked)) (c.as_slice.ensures ∙ ap (λ (p : Phase). p.asked) c.phase_of.ensures)
    ∙ ap (λ (asked : List Asked). naive_sum asked) (flat_next (λ (step : StepPlan). (phase_of direction step).asked) steps i c.step-item.result c.loop-step-test.true c.step-item.is)
