use Rattle.plan_text.proofs.Cited.{◌≡◌, ◌++◌, map, take, joined, caller_object}
use Rattle.plan_text.proofs.json_steps.push_callers.Given as goal

abbrev pub invariant-loop-number : goal.invariant-loop-number
invariant-loop-number l = l.out.items ≡ l.initial.out.items ++ joined 44 (map (caller_object l.script l.plan) (take l.number l.callers))
