use Rattle.plan_text.proofs.Cited.{◌≡◌, ◌++◌, map, take, joined, on_line, step_object}
use Rattle.plan_text.proofs.json_steps.push_steps.Given as goal

abbrev pub invariant-loop-number : goal.invariant-loop-number
invariant-loop-number l = l.out.items ≡ l.initial.out.items ++ joined 44 (map (λ step. on_line (step_object l.script l.plan step)) (take l.number l.steps))
