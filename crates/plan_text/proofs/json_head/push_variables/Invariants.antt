use Rattle.plan_text.proofs.Cited.{◌≡◌, ◌++◌, map, take, joined, variable_object}
use Rattle.plan_text.proofs.json_head.push_variables.Given as goal

abbrev pub invariant-loop-number : goal.invariant-loop-number
invariant-loop-number l = l.out.items ≡ l.initial.out.items ++ joined 44 (map (variable_object l.header) (take l.number l.vars))
