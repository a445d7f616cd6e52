use Rattle.plan_text.proofs.Cited.{◌≡◌, ◌++◌, take, flat_map, variable_line}
use Rattle.plan_text.proofs.head.push_variables.Given as goal

abbrev pub invariant-loop-var : goal.invariant-loop-var
invariant-loop-var l = l.out.items ≡ l.initial.out.items ++ flat_map (variable_line l.header) (take l.var-index l.vars)
