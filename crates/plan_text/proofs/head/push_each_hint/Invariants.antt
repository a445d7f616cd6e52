use Rattle.plan_text.proofs.Cited.{◌≡◌, ◌++◌, take, flat_map, row_of, hint_line}
use Rattle.plan_text.proofs.head.push_each_hint.Given as goal

abbrev pub invariant-loop-name : goal.invariant-loop-name
invariant-loop-name l = l.out.items ≡ l.initial.out.items ++ flat_map (λ name. hint_line l.script (row_of name)) (take l.name-index l.names)
