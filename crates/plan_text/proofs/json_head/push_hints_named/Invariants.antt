use Rattle.plan_text.proofs.Cited.{◌≡◌, ◌++◌, map, take, joined, hint_object, row_of}
use Rattle.plan_text.proofs.json_head.push_hints_named.Given as goal

abbrev pub invariant-loop-number : goal.invariant-loop-number
invariant-loop-number l = l.out.items ≡ l.initial.out.items ++ joined 44 (map (λ name. hint_object l.script (row_of name)) (take l.number l.names))
