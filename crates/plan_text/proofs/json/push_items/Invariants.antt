use Rattle.plan_text.proofs.Cited.{◌≡◌, ◌++◌, map, take, joined}
use Rattle.plan_text.proofs.json.push_items.Given as goal

abbrev pub invariant-loop-number : goal.invariant-loop-number
invariant-loop-number g l = l.out.items ≡ l.initial.out.items ++ joined 44 (map g.T.ArrayItem.value (take l.number l.items))
