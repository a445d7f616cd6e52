use Rattle.plan_text.proofs.Cited.{◌≡◌, ◌++◌, map, take, joined, mark_word, json_text}
use Rattle.plan_text.proofs.json_head.push_order.Given as goal

abbrev pub invariant-loop-number : goal.invariant-loop-number
invariant-loop-number l = l.out.items ≡ l.initial.out.items ++ joined 44 (map (λ step. json_text (mark_word step.mark)) (take l.number l.steps))
