use Rattle.plan_text.proofs.Cited.{◌≡◌, ◌++◌, map, take, mark_word, spaced}
use Rattle.plan_text.proofs.head.push_marks.Given as goal

abbrev pub invariant-loop-step : goal.invariant-loop-step
invariant-loop-step l = l.out.items ≡ l.initial.out.items ++ spaced (map (λ step. mark_word step.mark) (take l.step-index l.steps))
