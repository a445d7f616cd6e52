use Rattle.plan_text.proofs.Cited.{◌≡◌, ◌++◌, take, device_lines}
use Rattle.plan_text.proofs.calls.push_device_calls.Given as goal

abbrev pub invariant-loop-call : goal.invariant-loop-call
invariant-loop-call l = l.out.items ≡ l.initial.out.items ++ device_lines l.blanks (take l.call-index l.calls)
