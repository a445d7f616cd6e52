use Rattle.plan_text.proofs.Cited.{◌≡◌, ◌++◌, take, flat_map, caller_line}
use Rattle.plan_text.proofs.steps.push_callers.Given as goal

abbrev pub invariant-loop-caller : goal.invariant-loop-caller
invariant-loop-caller l = l.out.items ≡ l.initial.out.items ++ flat_map (caller_line l.script.calls l.plan.answers) (take l.caller-index l.callers)
