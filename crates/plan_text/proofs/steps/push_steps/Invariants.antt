use Rattle.plan_text.proofs.Cited.{◌≡◌, ◌++◌, take, flat_map, step_lines}
use Rattle.plan_text.proofs.steps.push_steps.Given as goal

abbrev pub invariant-loop-step : goal.invariant-loop-step
invariant-loop-step l = l.out.items ≡ l.initial.out.items ++ flat_map (step_lines l.script.calls l.plan.answers) (take l.step-index l.steps)
